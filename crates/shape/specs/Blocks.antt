-- Document 01, 'Shape': sizes, counts and offsets, the level for a request, a block's id and its place in the tables.
-- Assumes nothing.
use Rattle.std.specs.Prelude.{cond, ℕ, zero, suc, ◌+◌, ◌*◌, ◌-◌, ◌/◌, ◌%◌, ◌^◌, leb}
use Rattle.shape.specs.declared.Shape.{Shape}
use Rattle.shape.specs.Limits.{parts}

-- the block size at level l
unfoldable pub size : Shape → ℕ → ℕ
size s l = s.top_size / parts s ^ l

-- how many blocks level l has
unfoldable pub count : Shape → ℕ → ℕ
count s l = s.tops * parts s ^ l

-- where block b of level l starts
abbrev pub offset : Shape → ℕ → ℕ → ℕ
offset s l b = b * size s l

-- the deepest level from l upward whose size is at least the request
unfoldable pub level_from : Shape → ℕ → ℕ → ℕ
level_from s zero request = zero
level_from s (suc l) request = cond (leb request (size s (suc l))) (suc l) (level_from s l request)

-- the level for a request: the deepest whose size is at least the request
unfoldable pub level_for : Shape → ℕ → ℕ
level_for s request = level_from s (s.levels - 1) request

-- a block's id: fields of 8, 4 and 20 bits, lowest first
abbrev pub id : Shape → ℕ → ℕ → ℕ
id s l b = s.pool + 256 * l + 4096 * b

abbrev pub id_pool : ℕ → ℕ
id_pool i = i % 256

abbrev pub id_level : ℕ → ℕ
id_level i = i / 256 % 16

abbrev pub id_block : ℕ → ℕ
id_block i = i / 4096

-- how many blocks lie above level l; a level's blocks stand together in the tables, level 0 first
unfoldable pub above : Shape → ℕ → ℕ
above s zero = 0
above s (suc l) = above s l + count s l

-- the place of block b of level l in the tables
abbrev pub place : Shape → ℕ → ℕ → ℕ
place s l b = above s l + b

-- how many blocks all levels have together
unfoldable pub blocks : Shape → ℕ
blocks s = above s s.levels

-- how many bytes the pool has
abbrev pub bytes : Shape → ℕ
bytes s = s.tops * s.top_size
