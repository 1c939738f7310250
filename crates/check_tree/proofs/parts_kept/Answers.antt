-- `check_tree::parts_kept` meets its contract: the flag says what holds of the blocks passed and their parts, which a word holds together.
-- Assumes nothing.
use mathlib.Core.Path.{◌≡◌, sym, ◌∙◌, ap}
use mathlib.Core.Bool.{Bool, true, not, ◌&&◌}
use mathlib.Core.List.{List}
use Prim.Native.Nat.{ℕ, ◌+◌, ◌*◌, ◌-◌, ◌/◌, ◌≤◌, ◌<◌}
use native.Mathlib.Omega.{arith}
use lib.ListN.{get_or}
use lib.Dec.{eqb}
use lib.Bits.{bit_and}
use mir.Val.{bool_byte}
use borrow.Author.Tests.{leb-true}
use Rattle.check_tree.specs.Words.{word_at}
use Rattle.laws.specs.Tests.{every, every_more, every-none, every-at}
use Rattle.shape.specs.declared.Shape.{Shape}
use Rattle.shape.specs.Limits.{parts, allowed}
use Rattle.shape.specs.Blocks.{above, blocks}
use Rattle.shape.specs.Laws.{limits}
use Rattle.shape.specs.Levels.{blocks-parts}
use Rattle.rules.specs.Numbers.{DIVIDED}
use Rattle.rules.specs.Valid.{states_known, parts_exist, buddies_merged}
use Rattle.check_tree.proofs.Parts.{kept, kept-all, kept-quarters}
use Rattle.check_tree.proofs.Words.{word_kept}
use Rattle.check_tree.proofs.parts_kept.Goals as goal

room : (s : Shape) (n : ℕ) → allowed s ≡ true → n ≡ above s (s.levels - 1) → s.tops + 4 * n ≡ blocks s
unfolding parts
room s n h e = rw e (sym (blocks-parts s (limits s h).levels.0))

whole :
    (s : Shape) (states : List ℕ) (i : ℕ) → i ≡ above s (s.levels - 1) →
    every i (kept 4 s.tops states) ≡ (parts_exist s states && buddies_merged s states)
unfolding parts
whole s states i e = rw e (kept-all s states)

known :
    (s : Shape) (states : List ℕ) (at : ℕ) → states_known s states ≡ true → at + 4 ≤ blocks s →
    (get_or states at 0 ≤ 5)
    × (get_or states (at + 1) 0 ≤ 5)
    × (get_or states (at + 2) 0 ≤ 5)
    × (get_or states (at + 3) 0 ≤ 5)
unfolding states_known
known s states at e h = (state at (omega arith), state (at + 1) (omega arith), state (at + 2) (omega arith), state (at + 3) (omega arith))
  where
    state : (k : ℕ) → k < blocks s → get_or states k 0 ≤ 5
    state k l = leb-true _ _ (every-at (blocks s) _ e k l)

more :
    (s : Shape) (states : List ℕ) (i : ℕ) (ok : Bool) (w : ℕ) → states_known s states ≡ true → s.tops + 4 * i + 4 ≤ blocks s →
    w ≡ word_at states (s.tops + 4 * i) → ok ≡ every i (kept 4 s.tops states) →
    (ok
    && (eqb (bit_and (bit_and w (w / 2)) 16843009) (bool_byte (not (eqb (get_or states i 0) DIVIDED)) * 16843009)
    && not (eqb w 16843009)))
    ≡ every (i + 1) (kept 4 s.tops states)
unfolding word_at
more s states i ok w k h q e =
    rw (every_more, kept-quarters, q, ← e)
    (ap (λ (t : Bool). ok && t)
    (word_kept
    (eqb (get_or states i 0) DIVIDED)
    (get_or states (s.tops + 4 * i) 0)
    (get_or states (s.tops + 4 * i + 1) 0)
    (get_or states (s.tops + 4 * i + 2) 0)
    (get_or states (s.tops + 4 * i + 3) 0)
    (known s states (s.tops + 4 * i) k h)))

pub loop-i-init : goal.loop-i-init
loop-i-init c = (room _ _ c.requires.0 c.requires.3 ∙ sym c.requires.1, sym (every-none _))

pub loop-i-preserved : goal.loop-i-preserved
loop-i-preserved c = (
  omega arith,
  more
      c.args.s
      c.args.states.now
      c.loop-i.i
      c.loop-i.ok
      c.word_at-word.result
      c.requires.2
      (omega arith)
      c.word_at-word.ensures
      c.loop-i.invariant.1,
)

pub returns : goal.returns
returns c = c.loop-i.invariant.1 ∙ whole _ _ _ (omega arith)
