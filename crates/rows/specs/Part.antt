-- Where a part of a lent table lies: that very row is these words, and in the caller's own table.
use Rattle.std.specs.Prelude.{ℕ, ◌+◌, ◌*◌}

-- the place of word `place` of a table that lies at p: the same block of memory, and 8 bytes a word further in it
abbrev pub placed : ℕ × ℕ → ℕ → ℕ × ℕ
placed p place = (p.0, place * 8 + p.1)
