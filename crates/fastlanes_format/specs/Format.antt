-- Which bytes are a column. The pages of a column are lists of bytes, and a place in one is a number of bytes from its first one on.
use Rattle.std.specs.Prelude.{◌≡◌, ℕ, ◌+◌, ◌-◌, ◌*◌, ◌/◌, ◌%◌, ◌^◌, ◌<◌, ◌≤◌, ◌⊎◌, zero, suc, Bool, List, [], ◌∷◌, ◌++◌, drop, length, slice_index, slice_range, take, if◌then◌else◌}
use Rattle.fastlanes_checksum.specs.Checksum.{checksum}

-- the number that n bytes are from a place on, the lowest first
abbrev pub number_at : ℕ → List ℕ → ℕ → ℕ
number_at zero bytes at = 0
number_at (suc n) bytes at = slice_index bytes at + 256 * number_at n bytes (at + 1)

-- how many values a page has, by its head
abbrev pub values_of : List ℕ → ℕ
values_of page = number_at 4 page 4

-- how many blocks these are, of 1024 values, and up to that in the last one
abbrev pub blocks_of : List ℕ → ℕ
blocks_of page = (values_of page + 1023) / 1024

-- where the head of a block stands
abbrev pub head_of : ℕ → ℕ
head_of block = 16 + 16 * block

-- 0 where a block is a frame, and 1 where it has the differences of neighbours
abbrev pub form_of : List ℕ → ℕ → ℕ
form_of page block = slice_index page (head_of block)

-- how many bits each of a block's values is packed to
abbrev pub width_of : List ℕ → ℕ → ℕ
width_of page block = slice_index page (head_of block + 1)

-- what is added to each digit of a frame
abbrev pub reference_of : List ℕ → ℕ → ℕ
reference_of page block = number_at 8 page (head_of block + 8)

-- how many bytes a block has behind the heads: 128 for each bit of its width, and 128 for the bases of differences
abbrev pub block_len : List ℕ → ℕ → ℕ
block_len page block = 128 * (form_of page block + width_of page block)

-- where these begin: behind all heads, and behind those of the blocks before it
abbrev pub block_place : List ℕ → ℕ → ℕ
block_place page zero = head_of (blocks_of page)
block_place page (suc block) = block_place page block + block_len page block

-- the bytes of a block
abbrev pub block_bytes : List ℕ → ℕ → List ℕ
block_bytes page block = slice_range page (block_place page block) (block_place page (suc block))

-- the head of a block, whose elements have so many bits
pub record IsBlockHead (bits : ℕ) (page : List ℕ) (block : ℕ) : Type 0 where
  pub form : form_of page block ≤ 1
  pub width : width_of page block ≤ bits
  pub spare : number_at 2 page (head_of block + 2) ≡ 0
  pub place : number_at 4 page (head_of block + 4) ≡ block_place page block
  pub reference : reference_of page block < 2 ^ bits
  pub no_reference : form_of page block ≡ 1 → reference_of page block ≡ 0

-- what the first four bytes of a page are: the checksum of all others, or 0
abbrev pub page_checksum : Bool → List ℕ → ℕ
page_checksum checked page = (if checked then checksum (drop 4 page) else 0)

-- the bytes of a page
pub record IsPage (bits : ℕ) (checked : Bool) (page : List ℕ) : Type 0 where
  pub check : number_at 4 page 0 ≡ page_checksum checked page
  pub some : 0 < values_of page
  pub most : values_of page ≤ 65536
  pub len : length page ≡ 16 + number_at 4 page 8
  pub spare : number_at 4 page 12 ≡ 0
  pub heads : (block : ℕ) → block < blocks_of page → IsBlockHead bits page block
  pub whole : length page ≡ block_place page (blocks_of page)

-- the bytes behind the last page of a column of so many values
pub record IsEnd (checked : Bool) (values : ℕ) (end : List ℕ) : Type 0 where
  pub check : number_at 4 end 0 ≡ page_checksum checked end
  pub none : values_of end ≡ 0
  pub len : number_at 4 end 8 ≡ 8
  pub spare : number_at 4 end 12 ≡ 0
  pub whole : length end ≡ 24
  pub all : number_at 8 end 16 ≡ values

-- the first bytes, of which there are so many, are a page of so many values, and behind pages of so many others there may be one
pub record BeginsWithPage (bits : ℕ) (checked : Bool) (before : ℕ) (bytes : List ℕ) (len values : ℕ) : Type 0 where
  pub inside : len ≤ length bytes
  pub room : before % 65536 ≡ 0
  pub page : IsPage bits checked (take len bytes)
  pub count : values ≡ values_of (take len bytes)

-- bytes that are pages, behind pages of so many values, and the end. All pages but the last have 65536 values.
abbrev pub ArePages : ℕ → Bool → ℕ → List (List ℕ) → List ℕ → Type 0
ArePages bits checked values [] bytes = IsEnd checked values bytes
ArePages bits checked values (page ∷ pages) bytes = (rest : List ℕ) × (bytes ≡ page ++ rest) × (values % 65536 ≡ 0)
    × IsPage bits checked page × ArePages bits checked (values + values_of page) pages rest

-- bytes begin with pages, behind pages of so many values, and the rest follows
abbrev pub BeginWithPages : ℕ → Bool → ℕ → List (List ℕ) → List ℕ → List ℕ → Type 0
BeginWithPages bits checked values [] bytes rest = bytes ≡ rest
BeginWithPages bits checked values (page ∷ pages) bytes rest = (behind : List ℕ) × (bytes ≡ page ++ behind) × (values % 65536 ≡ 0)
    × IsPage bits checked page × BeginWithPages bits checked (values + values_of page) pages behind rest

-- how many bytes the longest page has: a header, and 64 blocks of differences of the full width, each with its header
abbrev pub longest_page : ℕ → ℕ
longest_page bits = 16 + 64 * (16 + 128 * (bits + 1))

-- how many bits an element has
abbrev pub IsElementSize : ℕ → Type 0
IsElementSize bits = (bits ≡ 8) ⊎ ((bits ≡ 16) ⊎ ((bits ≡ 32) ⊎ (bits ≡ 64)))

-- the first eight bytes of a column: 'F', 'L', 'C' and the version, how many bits an element has, and whether pages have checksums
pub record IsColumnHead (bits : ℕ) (checked : Bool) (head : List ℕ) : Type 0 where
  pub whole : length head ≡ 8
  pub name : number_at 4 head 0 ≡ 0x01434C46
  pub size : IsElementSize bits
  pub element : slice_index head 4 ≡ bits
  pub checks : slice_index head 5 ≡ (if checked then 3 else 0)
  pub spare : number_at 2 head 6 ≡ 0

-- the bytes of a column that has these pages
pub record IsColumn (bits : ℕ) (checked : Bool) (pages : List (List ℕ)) (bytes : List ℕ) : Type 0 where
  pub head : IsColumnHead bits checked (take 8 bytes)
  pub behind : ArePages bits checked 0 pages (drop 8 bytes)

-- the bytes are a column
pub record AreColumn (bits : ℕ) (bytes : List ℕ) : Type 0 where
  pub checked : Bool
  pub pages : List (List ℕ)
  pub is : IsColumn bits checked pages bytes

-- how many values a column has: the number that its last eight bytes are
abbrev pub count_of : List ℕ → ℕ
count_of bytes = number_at 8 bytes (length bytes - 8)

-- how long a page or an end is by the head with which bytes begin
abbrev pub head_len : List ℕ → ℕ
head_len bytes = 16 + number_at 4 bytes 8

-- where the page of a number begins in a column: behind its head, and behind the pages before it
abbrev pub page_place : List ℕ → ℕ → ℕ
page_place bytes zero = 8
page_place bytes (suc page) = page_place bytes page + head_len (drop (page_place bytes page) bytes)

-- the bytes of a page of a column
abbrev pub page_bytes : List ℕ → ℕ → List ℕ
page_bytes bytes page = take (head_len (drop (page_place bytes page) bytes)) (drop (page_place bytes page) bytes)
