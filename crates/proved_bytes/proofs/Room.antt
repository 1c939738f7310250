-- Where a level has room, and where all bytes are free.
-- Assumes nothing.
use Rattle.std.specs.Prelude.{◌≡◌, refl, ◌↔◌, ℕ, ◌*◌, ◌/◌, ◌≤◌, ◌<◌}
use Rattle.std.proofs.Common.{sym, ◌∙◌, ap, mul-div_cancel, div-lt_iff_lt-mul, div-mul-le_self, arith}
use Rattle.std.proofs.Math.Arith.{le-zero}
use Rattle.rules.specs.Numbers.{FREE}
use Rattle.proved_bytes.specs.Tree.{Tree, Sizes}
use Rattle.proved_bytes.specs.Runs.{FreeTo, Free, Run, free-inside}
use Rattle.proved_bytes.proofs.Runs.{free-run, free-block}
use Rattle.proved_bytes.specs.Room.{Room, Freer}

module _ {p levels tops : ℕ} {st : ℕ → ℕ → ℕ} {size : ℕ → ℕ} (t : Tree p levels tops st) (z : Sizes p levels size) where
  -- all bytes are free where every top block is FREE, and only there
  pub all-free :
      0 < levels → ((y : ℕ) → y < tops * size 0 → Free levels size st y) ↔ ((b : ℕ) → b < tops → st 0 b ≡ FREE)
  all-free h = (top, λ f y k. (0, h, f (y / size 0) ((div-lt_iff_lt-mul (z.some 0 h)).1 k)))
    where
      inside : (b y : ℕ) → b < tops → y / size 0 ≡ b → y < tops * size 0
      inside b y k e = (div-lt_iff_lt-mul (z.some 0 h)).0 (rw e k)

      top : ((y : ℕ) → y < tops * size 0 → Free levels size st y) → (b : ℕ) → b < tops → st 0 b ≡ FREE
      top f b k =
          let (l, w, g) = (free-block t z 0 b h).0 (λ y q. f y (inside b y k q)) in
          sym (ap (st 0) (mul-div_cancel b (z.some 0 h))) ∙ rw (le-zero w) at g

  -- a level or one above it has a FREE block where a run of that level's length, at a multiple of it, is free, and only there
  pub room : (k : ℕ) → k < levels → Room st k ↔ ((b : ℕ) × (b * size k < tops * size 0) × Run levels size st k b)
  room k h = (run, λ (b, w, r). block b ((free-block t z k b h).0 r))
    where
      run : Room st k → (b : ℕ) × (b * size k < tops * size 0) × Run levels size st k b
      run (l, b, w, e) = (y / size k, omega (arith, div-mul-le_self y (size k), free-inside t z y (free y refl)), free)
        where
          y : ℕ
          y = b * size l

          free : Run levels size st k (y / size k)
          free = (free-run t z k y h).1 (l, w, rw (mul-div_cancel b (z.some l (omega arith))) e)

      block : (b : ℕ) → FreeTo size st k (b * size k) → Room st k
      block b (l, w, e) = (l, b * size k / size l, w, e)

-- and a level that had room has room, and so has each deeper one
pub room-freer :
    {p levels tops : ℕ} {here there : ℕ → ℕ → ℕ} {size : ℕ → ℕ} → Tree p levels tops here → Tree p levels tops there →
    Sizes p levels size → Freer levels size here there → (k m : ℕ) → k ≤ m → m < levels → Room here k → Room there m
room-freer t u z f k m h q r =
    let (b, w, run) = (room t z k (omega arith)).0 r in
    let (l, c, n, e) = (room u z k (omega arith)).1 (b, w, λ y i. f y (run y i)) in
    (l, c, omega arith, e)
