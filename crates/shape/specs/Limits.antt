-- Document 01, 'Shape': the numbers that bound a shape.
-- Assumes nothing.
use Rattle.std.specs.Prelude.{Bool, ◌&&◌, ℕ, ◌*◌, ◌-◌, ◌%◌, ◌^◌, leb, eqb}
use Rattle.shape.specs.declared.Shape.{Shape}

-- into how many parts a block is split: quarters
unfoldable pub parts : Shape → ℕ
parts s = 4

-- pool number 0..255; threads 1..8; levels 1..5; top blocks 1..16; top size at most 65,536
abbrev pub most_pool : ℕ
most_pool = 255

abbrev pub most_threads : ℕ
most_threads = 8

abbrev pub most_levels : ℕ
most_levels = 5

abbrev pub most_tops : ℕ
most_tops = 16

abbrev pub most_top_size : ℕ
most_top_size = 65536

-- what follows for the largest shape: the most blocks of a level, and of all levels together (`shape/Laws.largest`)
abbrev pub most_count : ℕ
most_count = 4096

abbrev pub most_blocks : ℕ
most_blocks = 5456

-- what the top size is a multiple of: the smallest size is then a positive multiple of 4, and 4^levels divides the top size
unfoldable pub unit : Shape → ℕ
unit s = 4 * parts s ^ (s.levels - 1)

-- the numbers lie within the limits, and the top size is a positive multiple
unfoldable pub allowed : Shape → Bool
allowed s =
    leb s.pool most_pool
    && (leb 1 s.threads && leb s.threads most_threads)
    && (leb 1 s.levels && leb s.levels most_levels)
    && (leb 1 s.tops && leb s.tops most_tops)
    && (leb 1 s.top_size && leb s.top_size most_top_size)
    && eqb (s.top_size % unit s) 0
