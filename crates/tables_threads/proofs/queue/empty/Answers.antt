-- `empty` meets its contract: zeros in every place are a queue of nobody.
-- Assumes nothing.
use Rattle.std.proofs.Common.{◌≡◌, ◌∙◌, List, [], ◌∷◌, ℕ, ◌-◌, ◌≤◌, arith, length, replicate, sub-one}
use Rattle.std.proofs.Math.Nat.{sub-zero}
use Rattle.laws.specs.Lists.{pad}
use Rattle.rules.specs.Tables.{put_queue}
use Rattle.tables_threads.proofs.queue.empty.Goals as goal

nobody : (queue : List ℕ) → 1 ≤ length queue → replicate (length queue) 0 ≡ put_queue (length queue - 1) []
unfolding pad put_queue
nobody [] h = absurd (omega arith)
nobody (n ∷ ys) h = simp (sub-one, sub-zero)

pub returns : goal.returns
returns c = c.fill.ensures.after (λ y h. h) ∙ nobody c.args.queue.now c.requires
