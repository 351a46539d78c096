-- The table of products.
use Rattle.std.proofs.Common.{◌≡◌, ◌+◌, ◌*◌, ◌/◌, ◌%◌, ◌<◌, ℕ, [], true, nat_eq, refl, slice_index, slice_index_or}
use Rattle.std.proofs.lemmas.Bool.{agree_below_at, eqb-true}
use Rattle.fastlanes_checksum.specs.declared.tables.TheConstants.{TIMES_X_TO}
use Rattle.fastlanes_checksum.specs.Checksum.{times_x_to}

pub table_at : (n : ℕ) → n < 4096 → slice_index (slice_index_or TIMES_X_TO (n / 256) []) (n % 256) ≡ times_x_to (8 * (n / 256 + 1)) (n % 256)
unfolding times_x_to
table_at n within = eqb-true _ _ (agree_below_at (λ k. nat_eq (slice_index (slice_index_or TIMES_X_TO (k / 256) []) (k % 256)) (times_x_to (8 * (k / 256 + 1)) (k % 256))) (λ _. true) 4096 n refl within)
