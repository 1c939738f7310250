-- When all bytes of the pool are free, when a level has room, and that more free bytes never mean less room.
-- Assumes nothing.
use Rattle.std.specs.Prelude.{◌≡◌, ℕ, ◌/◌, ◌≤◌, ◌<◌}
use Rattle.rules.specs.Numbers.{FREE}
use Rattle.proved_bytes.specs.Tree.{Tree, Sizes}
use Rattle.proved_bytes.specs.Runs.{Free, Run, run-deeper}

-- some level up to k has a FREE block
abbrev pub Room : (ℕ → ℕ → ℕ) → ℕ → Type 0
Room st k = (l : ℕ) × (b : ℕ) × (l ≤ k) × (st l b ≡ FREE)

-- every byte that is free here is free there
abbrev pub Freer : ℕ → (ℕ → ℕ) → (ℕ → ℕ → ℕ) → (ℕ → ℕ → ℕ) → Type 0
Freer levels size here there = (y : ℕ) → Free levels size here y → Free levels size there y

-- where more bytes are free a run that was free is free, and so is each deeper level's in it
pub run-freer :
    {p levels tops : ℕ} {here there : ℕ → ℕ → ℕ} {size : ℕ → ℕ} → Tree p levels tops here → Tree p levels tops there →
    Sizes p levels size → Freer levels size here there → (k m y : ℕ) → k ≤ m → m < levels →
    Run levels size here k (y / size k) → Run levels size there m (y / size m)
run-freer t u z f k m y h q r x e = f x (run-deeper t z k m y h q r x e)
