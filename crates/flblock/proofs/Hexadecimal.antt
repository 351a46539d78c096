-- The hexadecimal digits of a number, two for each byte.
use Rattle.std.proofs.Common.{◌≡◌, ℕ, zero, suc, ◌+◌, ◌-◌, ◌*◌, ◌/◌, ◌%◌, ◌^◌, List, [], ◌∷◌, ◌++◌, length, take, drop, get_or, set, inl, inr, refl, sym, ap, ◌∙◌, arith}
use Rattle.std.proofs.Math.Nat.{div-div-eq-div-mul, div-one, pow-suc}
use Rattle.std.proofs.lemmas.Nat.{mul-pow, pow-add}
use Rattle.std.specs.Int.{bytes_high_first, byte_at}
use Rattle.std.specs.List.{between}
use Rattle.std.proofs.lemmas.List.Edits.{length-between}
use Rattle.std.proofs.lemmas.List.{drop_all, drop_more, length-take-le, set_at}
use Rattle.fastlanes.specs.Element.{IsWordSize}
use Rattle.hex.specs.Hex.{encode_lower, encode_with}
use Rattle.flblock.specs.Ramp.{hex_text, line_of}

-- a byte by its place, in the base 16
byte_at-is : (k x : ℕ) → byte_at k x ≡ x / 16 ^ (2 * k) % 256
byte_at-is zero x = ap (λ n. n % 256) (sym (div-one x))
byte_at-is (suc k) x =
    let two : 2 * suc k ≡ suc k + suc k = omega arith in
    ap (λ d. x / d % 256) (mul-pow 16 16 (suc k) ∙ sym (pow-add 16 (suc k) (suc k)) ∙ ap (λ n. 16 ^ n) (sym two))

-- its high digit and its low digit
high-digit : (k x : ℕ) → byte_at k x / 16 ≡ x / 16 ^ suc (2 * k) % 16
high-digit k x =
    let y = x / 16 ^ (2 * k) in
    let nested : x / 16 ^ suc (2 * k) ≡ y / 16 = ap (λ d. x / d) (pow-suc 16 (2 * k)) ∙ sym (div-div-eq-div-mul x (16 ^ (2 * k)) 16) in
    let split : y % 256 / 16 ≡ y / 16 % 16 = omega arith in
    ap (λ b. b / 16) (byte_at-is k x) ∙ split ∙ ap (λ n. n % 16) (sym nested)

low-digit : (k x : ℕ) → byte_at k x % 16 ≡ x / 16 ^ (2 * k) % 16
low-digit k x =
    let y = x / 16 ^ (2 * k) in
    let split : y % 256 % 16 ≡ y % 16 = omega arith in
    ap (λ b. b % 16) (byte_at-is k x) ∙ split

-- the lowest k bytes of a number, the highest first, as hexadecimal digits
encode_lower-bytes : (k x : ℕ) → encode_lower (bytes_high_first k x) ≡ hex_text (2 * k) x
unfolding encode_with hex_text
encode_lower-bytes zero x = refl
encode_lower-bytes (suc k) x =
    let two : 2 * suc k ≡ suc (suc (2 * k)) = omega arith in
    let rest = encode_lower-bytes k x in
    rw (two, high-digit k x, low-digit k x, rest) refl

length-hex_text : (n x : ℕ) → length (hex_text n x) ≡ n
unfolding hex_text
length-hex_text zero x = refl
length-hex_text (suc n) x = ap suc (length-hex_text n x)

-- the digits of a word's bytes take all of its line but the last place
pub length-digits : (t : ℕ) (line bytes : List ℕ) → IsWordSize t → length line ≡ t / 4 + 1 → length bytes ≡ 8
    → length (take (t / 4) line) ≡ 2 * length (between (8 - t / 4 / 2) 8 bytes)
length-digits t line bytes size long eight =
    let digits = length-take-le (t / 4) line (omega arith) in
    let part = length-between bytes (8 - t / 4 / 2) 8 (omega arith) in
    grind arith

-- a byte behind a text, in the last place of a line
set-last : (text line : List ℕ) (d y : ℕ) → length text ≡ d → length line ≡ d + 1 → set (text ++ drop d line) d y ≡ text ++ y ∷ []
set-last text line d y at long =
    let last : drop d line ≡ get_or line d 0 ∷ drop (d + 1) line = drop_more line d 0 (omega arith) in
    let none : drop (d + 1) line ≡ [] = drop_all (d + 1) line (omega arith) in
    rw (last, none) (set_at text (get_or line d 0) [] y d at)

-- a word of k bytes is a line of their digits and a line feed
line_of-digits : (t k x : ℕ) (line text : List ℕ) → t / 4 ≡ 2 * k → length line ≡ t / 4 + 1
    → text ≡ encode_lower (bytes_high_first k x) → set (text ++ drop (t / 4) line) (t / 4) 10 ≡ line_of t x
line_of-digits t k x line text wide long digits =
    let is : text ≡ hex_text (t / 4) x = digits ∙ encode_lower-bytes k x ∙ ap (λ n. hex_text n x) (sym wide) in
    rw is (set-last (hex_text (t / 4) x) line (t / 4) 10 (length-hex_text (t / 4) x) long)

-- the bytes of a word of t bits, the last of eight
abbrev part : ℕ → ℕ → List ℕ
part t x = between (8 - t / 4 / 2) 8 (bytes_high_first 8 x)

-- a line holds the digits of its word's bytes, and a line feed behind them
pub line_of-bytes : (t x : ℕ) (line text : List ℕ) → IsWordSize t → length line ≡ t / 4 + 1
    → text ≡ encode_lower (between (8 - t / 4 / 2) 8 (bytes_high_first 8 x)) → set (text ++ drop (t / 4) line) (t / 4) 10 ≡ line_of t x
line_of-bytes t x line text (inl e) long digits =
    line_of-digits t 1 x line text (omega arith) long (digits ∙ ap (λ n. encode_lower (part n x)) e)
line_of-bytes t x line text (inr (inl e)) long digits =
    line_of-digits t 2 x line text (omega arith) long (digits ∙ ap (λ n. encode_lower (part n x)) e)
line_of-bytes t x line text (inr (inr (inl e))) long digits =
    line_of-digits t 4 x line text (omega arith) long (digits ∙ ap (λ n. encode_lower (part n x)) e)
line_of-bytes t x line text (inr (inr (inr e))) long digits =
    line_of-digits t 8 x line text (omega arith) long (digits ∙ ap (λ n. encode_lower (part n x)) e)
