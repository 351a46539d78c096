mod Finding
mod HeadAndRest
mod Stopped
