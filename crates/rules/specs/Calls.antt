-- Document 01, 'Calls and steps' and 'Refusal numbers': each public call on any tables, its refusals in the table's order.
-- Assumes nothing.
use Rattle.std.specs.Prelude.{Option, None, Some, Ok, Bool, true, false, not, ◌&&◌, List, ℕ, ◌+◌, length, set, ltb, eqb}
use Rattle.laws.specs.Lists.{keep}
use Rattle.shape.specs.declared.Shape.{Shape}
use Rattle.shape.specs.declared.time.Millis.{Millis}
use Rattle.shape.specs.declared.time.Wait.{Wait}
use Rattle.shape.specs.declared.time.Wait.TheVariants.{Never, Forever, Timed}
use Rattle.shape.specs.Blocks.{place, id_level, id_block}
use Rattle.shape.specs.Time.{wait}
use Rattle.rules.specs.declared.Call.{Call}
use Rattle.rules.specs.declared.Refusal.TheVariants.{NoThread, IsBlocked, NoCall, SizeAboveTop, WaitOutside, ClockAtEnd}
use Rattle.rules.specs.declared.Answer.TheVariants.{Opened, Switched, Ticked, Built}
use Rattle.rules.specs.Numbers.{FREEING, CLOSED, ASKED, RELEASING, WAITING, NEVER, FOREVER, TIMED, CLOCK-END}
use Rattle.rules.specs.Tables.{Pool, Threads, State, pool, threads, lent, queue_of, put_queue, call_of, fresh}
use Rattle.rules.specs.Steps.{Outcome, outcome, with_call, only_call, holding, wake, go_on_step}
use Rattle.rules.specs.Refusals.{through, fitting, checked, refused, refuse, by_running, by_idle, of_held}

-- fresh tables, whatever they held
unfoldable pub build : Shape → State → Outcome
build s T = through (refused T) (fitting s T) (outcome (Ok Built) (fresh s))

-- a call that is asked, with the deadline at the clock plus ticks
unfoldable pub asked_call : ℕ → ℕ → Option Wait → Call
asked_call clock size (Some Never) =
    record { stage = ASKED; size = size; wait = NEVER; deadline = 0; level = 0; block = 0 }
asked_call clock size (Some Forever) =
    record { stage = ASKED; size = size; wait = FOREVER; deadline = 0; level = 0; block = 0 }
asked_call clock size (Some (Timed ticks)) =
    record { stage = ASKED; size = size; wait = TIMED; deadline = clock + ticks.0; level = 0; block = 0 }
asked_call clock size None = record { stage = ASKED; size = size; wait = NEVER; deadline = 0; level = 0; block = 0 }

abbrev pub is_outside : Option Wait → Bool
is_outside (Some w) = false
is_outside None = true

-- ask, refusals 9 and 10 last: the call becomes asked
unfoldable pub ask_step : Shape → State → ℕ → ℕ → Option Wait → Outcome
ask_step s T t size w =
    by_idle T t
    (refuse (ltb s.top_size size) SizeAboveTop T
    (refuse (is_outside w) WaitOutside T
    (outcome (Ok Opened) (only_call T t (asked_call T.threads.device.clock size w)))))

unfoldable pub ask : Shape → State → ℕ → ℕ → Millis → Outcome
ask s T t size m = checked (refused T) s T (by_running s T t (ask_step s T t size (wait m.0)))

-- go on, by the call's stage
unfoldable pub go_on : Shape → State → ℕ → Outcome
go_on s T t =
    checked (refused T) s T
    (by_running s T t
    (refuse (eqb (call_of T.threads.calls t).stage CLOSED) NoCall T (go_on_step s T t (call_of T.threads.calls t))))

-- the block becomes FREEING without owner
abbrev pub give_pool : Shape → Pool → ℕ → ℕ → Pool
give_pool s P l b = pool (set P.states (place s l b) FREEING) (set P.owners (place s l b) 0) P.lists

-- thread t has given back block b of level l: its call is releasing
abbrev pub given : Shape → State → ℕ → ℕ → ℕ → State
given s T t l b = lent (give_pool s T.pool l b) (with_call T.threads t (holding RELEASING 0 l b))

-- give back a block that the thread holds
unfoldable pub give_step : Shape → State → ℕ → ℕ → Outcome
give_step s T t i = by_idle T t (of_held s T t i (outcome (Ok Opened) (given s T t (id_level i) (id_block i))))

unfoldable pub give : Shape → State → ℕ → ℕ → Outcome
give s T t i = checked (refused T) s T (by_running s T t (give_step s T t i))

-- the record alone changes
abbrev pub only_device : State → ℕ → ℕ → State
only_device T clock running =
    lent T.pool (threads T.threads.calls T.threads.queue (record { clock = clock; running = running }))

-- switch: that thread runs; the one before stays ready
unfoldable pub switch_step : Shape → State → ℕ → Outcome
switch_step s T t =
    refuse (not (ltb t s.threads)) NoThread T
    (refuse (eqb (call_of T.threads.calls t).stage WAITING) IsBlocked T
    (outcome (Ok Switched) (only_device T T.threads.device.clock (t + 1))))

unfoldable pub switch : Shape → State → ℕ → Outcome
switch s T t = checked (refused T) s T (switch_step s T t)

-- the thread waits for a time, and this is it
unfoldable pub due : List ℕ → ℕ → ℕ → Bool
due calls clock t = eqb (call_of calls t).wait TIMED && eqb (call_of calls t).deadline clock

-- the waiting threads whose deadline this is
abbrev pub due_at : Threads → ℕ → List ℕ
due_at W clock = keep (due W.calls clock) (queue_of W.queue)

-- clock + 1; waiting threads whose deadline is the new clock become ready and asked, and leave the queue, the rest keeping their order
abbrev pub ticked : Shape → Threads → Threads
ticked s W =
    threads (wake W.calls (due_at W (W.device.clock + 1)))
    (put_queue s.threads (keep (λ t. not (due W.calls (W.device.clock + 1) t)) (queue_of W.queue)))
    (record { clock = W.device.clock + 1; running = W.device.running })

-- tick
unfoldable pub tick_step : Shape → State → Outcome
tick_step s T =
    refuse (eqb T.threads.device.clock CLOCK-END) ClockAtEnd T
    (outcome (Ok (Ticked (length (due_at T.threads (T.threads.device.clock + 1))))) (lent T.pool (ticked s T.threads)))

unfoldable pub tick : Shape → State → Outcome
tick s T = checked (refused T) s T (tick_step s T)
