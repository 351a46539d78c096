-- The room that a block takes.
use Rattle.std.specs.Prelude.{◌*◌, ◌^◌, ◌<◌}
use Rattle.std.specs.Mem.{type_size}
use denote.RattleType.{RattleType}

-- 1024 values of a type take fewer than 2 ^ 63 bytes
abbrev pub BlockFitsInMemory : RattleType → Type 0
BlockFitsInMemory R = 1024 * type_size R < 2 ^ 63
