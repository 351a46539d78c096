-- Pages that are written one behind another, and columns that went from a source to a sink.
use Rattle.std.specs.Prelude.{◌≡◌, ℕ, ◌*◌, ◌%◌, ◌<◌, Bool, List, [], ◌++◌, drop, length, take}
use Rattle.fastlanes_bytes.specs.Bytes.{bytes_of}
use Rattle.fastlanes_format.specs.Format.{IsColumnHead}
use Rattle.fastlanes_pages.specs.Encoded.{HaveShortestBlocks}
use Rattle.fastlanes_pages.specs.Shortest.{HasShortestBlocks}
use Rattle.fastlanes_pages.specs.Values.{HoldsPage, HoldsPages}
use Rattle.fastlanes_streams.specs.Stream.{Delivers, Gives, Sink, Source, Takes}

-- these are pages of so many values, whole ones if more may follow: whatever pages and end do, all of it is pages and the end
pub record ArePagesSoFar (t lanes : ℕ) (checked : Bool) (count : ℕ) (bytes values : List ℕ) : Type 0 where
  pub pages : List (List ℕ)
  pub many : length values ≡ count
  pub full : count % 65536 ≡ 0 → count ≡ 65536 * length pages
  pub followed : (others : List (List ℕ)) (rest more : List ℕ) → HoldsPages t lanes checked count others rest more
      → HoldsPages t lanes checked 0 (pages ++ others) (bytes ++ rest) (values ++ more)

-- the sink took a page of the values that the bytes are, each block written as the encoder writes it
pub record WritesPage (t lanes : ℕ) (frames_only checked : Bool) (count : ℕ) (bytes : List ℕ) (to to' : Sink) : Type 0 where
  pub values : List ℕ
  pub page : List ℕ
  pub same : bytes ≡ bytes_of t values
  pub many : length values ≡ count
  pub holds : HoldsPage t lanes checked page values
  pub shortest : HasShortestBlocks t frames_only page values
  pub takes : Takes to page to'

-- the source gave so many values, and the sink took a page of them; where there are none it took nothing, and where there are fewer
-- than a page has at most, the source came to its end
pub record EncodesNext (t lanes : ℕ) (frames_only checked : Bool) (count : ℕ) (from from' : Source) (to to' : Sink) : Type 0 where
  pub values : List ℕ
  pub page : List ℕ
  pub gives : Gives from (bytes_of t values) from'
  pub many : length values ≡ count
  pub takes : Takes to page to'
  pub holds : 0 < count → HoldsPage t lanes checked page values
  pub shortest : 0 < count → HasShortestBlocks t frames_only page values
  pub none : count ≡ 0 → page ≡ []
  pub ended : count < 65536 → from'.left ≡ []

-- the source gave all of its values, so many, and the sink took pages of them, each block written so
pub record EncodesPages (t lanes : ℕ) (frames_only checked : Bool) (count : ℕ) (from from' : Source) (to to' : Sink) : Type 0 where
  pub values : List ℕ
  pub bytes : List ℕ
  pub gives : Gives from (bytes_of t values) from'
  pub takes : Takes to bytes to'
  pub so_far : ArePagesSoFar t lanes checked count bytes values
  pub shortest : HaveShortestBlocks t frames_only so_far.pages values

-- the source gave values as bytes and came to its end, and the sink took a column of these values and was flushed: pages with
-- checksums or without, as is asked for, each block written so
pub record Encodes (t lanes : ℕ) (frames_only checked : Bool) (from from' : Source) (to to' : Sink) : Type 0 where
  pub values : List ℕ
  pub column : List ℕ
  pub gives : Gives from (bytes_of t values) from'
  pub ended : from'.left ≡ []
  pub pages : List (List ℕ)
  pub head : IsColumnHead t checked (take 8 column)
  pub behind : HoldsPages t lanes checked 0 pages (drop 8 column) values
  pub shortest : HaveShortestBlocks t frames_only pages values
  pub delivers : Delivers to column to'

-- the sink took the bytes of a page's values
pub record WritesValues (t lanes : ℕ) (checked : Bool) (page : List ℕ) (to to' : Sink) : Type 0 where
  pub values : List ℕ
  pub holds : HoldsPage t lanes checked page values
  pub takes : Takes to (bytes_of t values) to'

-- the source gave pages of these values, so many
pub record GivesPages (t lanes : ℕ) (checked : Bool) (count : ℕ) (from from' : Source) (values : List ℕ) : Type 0 where
  pub bytes : List ℕ
  pub gives : Gives from bytes from'
  pub so_far : ArePagesSoFar t lanes checked count bytes values

-- the source gave what follows the head of a column of these values, so many, and came to its end
pub record GivesRest (t lanes : ℕ) (checked : Bool) (count : ℕ) (from from' : Source) (values : List ℕ) : Type 0 where
  pub bytes : List ℕ
  pub pages : List (List ℕ)
  pub gives : Gives from bytes from'
  pub ended : from'.left ≡ []
  pub holds : HoldsPages t lanes checked 0 pages bytes values
  pub many : length values ≡ count

-- the source gave pages, and the sink took the bytes of their values, so many
pub record DecodesPages (t lanes : ℕ) (checked : Bool) (count : ℕ) (from from' : Source) (to to' : Sink) : Type 0 where
  pub values : List ℕ
  pub pages : GivesPages t lanes checked count from from' values
  pub takes : Takes to (bytes_of t values) to'

-- the source gave what follows the head of a column and came to its end, and the sink took the bytes of its values, so many, and was
-- flushed
pub record Decodes (t lanes : ℕ) (checked : Bool) (count : ℕ) (from from' : Source) (to to' : Sink) : Type 0 where
  pub values : List ℕ
  pub rest : GivesRest t lanes checked count from from' values
  pub delivers : Delivers to (bytes_of t values) to'
