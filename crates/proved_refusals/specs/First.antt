-- Demand 1, and document 01's "They are tried in the table's order": each call's refusal is the first of the table's lines for it whose
-- condition holds, and the call alters nothing; where none holds, its step is made. A line is a refusal and the condition that the paper
-- gives it, in the order of the numbers.
-- Assumes nothing.
use Rattle.std.specs.Prelude.{Ok, Err, Result, ◌≡◌, true, false, not, cond, List, [], ◌∷◌, ◌++◌, ℕ, ◌+◌, ◌-◌, length, get_or, eqb}
use Rattle.std.proofs.Math.Path.{refl}
use Rattle.std.proofs.Common.{◌∙◌, ap}
use Rattle.std.proofs.Math.Bool.{Bool}
use Rattle.std.proofs.lemmas.List.Edits.{sets}
use Rattle.std.proofs.Math.Dec.{ltb}
use Rattle.shape.specs.declared.Shape.{Shape}
use Rattle.shape.specs.declared.time.Millis.{Millis}
use Rattle.shape.specs.Limits.{allowed}
use Rattle.shape.specs.Blocks.{place, bytes, id_level, id_block}
use Rattle.shape.specs.Time.{wait}
use Rattle.rules.specs.declared.Refusal.{Refusal}
use Rattle.rules.specs.declared.Refusal.TheVariants.{ShapeNotAllowed, WrongLength, NotValid, NoThread, NotRunning, IsBlocked, CallOpen, NoCall, SizeAboveTop, WaitOutside, IdOutside, NotAllocated, NotOwner, ClockAtEnd, OffsetOutside, RowTooShort}
use Rattle.rules.specs.Refusals.{Verdict}
use Rattle.rules.specs.declared.Answer.TheVariants.{Opened, Switched, Ticked, Whole, NotWhole, Built}
use Rattle.rules.specs.declared.Covered.{Covered}
use Rattle.rules.specs.Numbers.{ALLOCATED, CLOSED, WAITING, CLOCK-END}
use Rattle.rules.specs.Tables.{State, lent, lengths, state_at, call_of, fresh}
use Rattle.rules.specs.Valid.{valid}
use Rattle.rules.specs.Steps.{Outcome, outcome, only_call, go_on_step}
use Rattle.rules.specs.Refusals.{failing, through, fitting, verdict, refused, refuse, running, by_running, id_outside, held_by}
use Rattle.rules.specs.Calls.{build, asked_call, is_outside, ask_step, ask, go_on, given, give_step, give, only_device, switch_step, switch, due_at, ticked, tick_step, tick}
use Rattle.rules.specs.Questions.{is_whole, whole, cover_level, block_over, cover, map_ids, MapOutcome, map_outcome, map_row, map_pool}

-- a line of the table: the refusal, and whether its condition holds
pub record Line : Type 0 where
  pub refusal : Refusal
  pub applies : Bool

abbrev row : Refusal → Bool → Line
row r b = record { refusal = r; applies = b }

-- the first that applies
unfoldable pub first : List Line → Verdict
first [] = (Ok tt)
first (x ∷ xs) = failing x.applies x.refusal (first xs)

-- what every call tries first; what a thread's call tries behind that; what a step on a held block tries
abbrev of_tables : Shape → State → List Line
of_tables s T =
    row ShapeNotAllowed (not (allowed s)) ∷ row WrongLength (not (lengths s T)) ∷ row NotValid (not (valid s T)) ∷ []

abbrev of_thread : Shape → State → ℕ → List Line
of_thread s T t =
    row NoThread (not (ltb t s.threads)) ∷ row NotRunning (not (eqb T.threads.device.running (t + 1))) ∷ []

abbrev of_block : Shape → State → ℕ → ℕ → List Line
of_block s T t i =
    row IdOutside (id_outside s i)
    ∷ row NotAllocated (not (eqb (state_at s T.pool.states (id_level i) (id_block i)) ALLOCATED))
    ∷ row NotOwner (not (eqb (get_or T.pool.owners (place s (id_level i) (id_block i)) 0) (t + 1)))
    ∷ []

-- whether the thread has a call open
abbrev is_open : State → ℕ → Bool
is_open T t = not (eqb (call_of T.threads.calls t).stage CLOSED)

-- the table's lines for each call
abbrev pub ask_lines : Shape → State → ℕ → ℕ → Millis → List Line
ask_lines s T t size m =
    of_tables s T
    ++ of_thread s T t
    ++ (row CallOpen (is_open T t) ∷ row SizeAboveTop (ltb s.top_size size) ∷ row WaitOutside (is_outside (wait m.0)) ∷ [])

abbrev pub go_on_lines : Shape → State → ℕ → List Line
go_on_lines s T t =
    of_tables s T ++ of_thread s T t ++ (row NoCall (eqb (call_of T.threads.calls t).stage CLOSED) ∷ [])

abbrev pub give_lines : Shape → State → ℕ → ℕ → List Line
give_lines s T t i = of_tables s T ++ of_thread s T t ++ (row CallOpen (is_open T t) ∷ of_block s T t i)

abbrev pub switch_lines : Shape → State → ℕ → List Line
switch_lines s T t =
    of_tables s T
    ++ (row NoThread (not (ltb t s.threads)) ∷ row IsBlocked (eqb (call_of T.threads.calls t).stage WAITING) ∷ [])

abbrev pub tick_lines : Shape → State → List Line
tick_lines s T = of_tables s T ++ (row ClockAtEnd (eqb T.threads.device.clock CLOCK-END) ∷ [])

abbrev pub cover_lines : Shape → State → ℕ → List Line
cover_lines s T x = of_tables s T ++ (row OffsetOutside (not (ltb x (bytes s))) ∷ [])

abbrev pub map_lines : Shape → State → List ℕ → List Line
map_lines s T places =
    of_tables s T ++ (row RowTooShort (ltb (length places) (length (map_ids s T.pool.states))) ∷ [])

-- lines behind lines are tried behind them
first-join :
    {A : Type 0} (give : Refusal → A) (xs ys : List Line) (rest : A) →
    through give (first xs) (through give (first ys) rest) ≡ through give (first (xs ++ ys)) rest
unfolding first
first-join give [] ys rest = refl
first-join give (x ∷ xs) ys rest = go x.applies (first-join give xs ys rest)
  where
    go :
        (b : Bool) → through give (first xs) (through give (first ys) rest) ≡ through give (first (xs ++ ys)) rest →
        through give (failing b x.refusal (first xs)) (through give (first ys) rest)
        ≡ through give (failing b x.refusal (first (xs ++ ys))) rest
    go true e = refl
    go false e = e

tables-first : (s : Shape) (T : State) → verdict s T ≡ first (of_tables s T)
unfolding verdict fitting first
tables-first s T = go (not (allowed s)) (not (lengths s T)) (not (valid s T))
  where
    go :
        (a l v : Bool) →
        through Err (failing a ShapeNotAllowed (failing l WrongLength (Ok tt))) (failing v NotValid (Ok tt))
        ≡ failing a ShapeNotAllowed (failing l WrongLength (failing v NotValid (Ok tt)))
    go true l v = refl
    go false true v = refl
    go false false v = refl

-- a call behind the verdict on the tables, and behind that on the thread
module _ {A : Type 0} (give : Refusal → A) (s : Shape) (T : State) (ys : List Line) (made : A) where
  behind : {o : A} → o ≡ through give (first ys) made → through give (verdict s T) o ≡ through give (first (of_tables s T ++ ys)) made
  behind e = rw (tables-first s T, e) (first-join give (of_tables s T) ys made)

module _ (s : Shape) (T : State) (t : ℕ) (ys : List Line) (made : Outcome) where
  behind-thread :
      {o : Outcome} → o ≡ through (refused T) (first ys) made →
      through (refused T) (verdict s T) (by_running s T t o) ≡ through (refused T) (first (of_tables s T ++ of_thread s T t ++ ys)) made
  unfolding running first
  behind-thread e =
      behind (refused T) s T (of_thread s T t ++ ys) made
      (ap (λ (x : Outcome). by_running s T t x) e ∙ first-join (refused T) (of_thread s T t) ys made)

-- refusals one behind the other are lines
refuse-first :
    (T : State) (b : Bool) (r : Refusal) (ys : List Line) (made : Outcome) {o : Outcome} → o ≡ through (refused T) (first ys) made →
    refuse b r T o ≡ through (refused T) (first (row r b ∷ ys)) made
unfolding first
refuse-first T true r ys made e = refl
refuse-first T false r ys made e = e

-- with no line left the step is made
none_first : {A : Type 0} (give : Refusal → A) (made : A) → made ≡ through give (first []) made
unfolding first
none_first give made = refl

module _ (s : Shape) (T : State) where
  none : (made : Outcome) → made ≡ through (refused T) (first []) made
  none made = none_first (refused T) made

  pub build-first :
      build s T
      ≡ through (refused T) (first (row ShapeNotAllowed (not (allowed s)) ∷ row WrongLength (not (lengths s T)) ∷ []))
      (outcome (Ok Built) (fresh s))
  unfolding build fitting first
  build-first = refl

  pub ask-first :
      (t size : ℕ) (m : Millis) →
      ask s T t size m
      ≡ through (refused T) (first (ask_lines s T t size m))
      (outcome (Ok Opened) (only_call T t (asked_call T.threads.device.clock size (wait m.0))))
  unfolding ask ask_step
  ask-first t size m =
      behind-thread s T t _ _
      (refuse-first T _ CallOpen _ _ (refuse-first T _ SizeAboveTop _ _ (refuse-first T _ WaitOutside _ _ (none _))))

  -- 14 and 15 are the step's own
  pub go-on-first :
      (t : ℕ) → go_on s T t ≡ through (refused T) (first (go_on_lines s T t)) (go_on_step s T t (call_of T.threads.calls t))
  unfolding go_on
  go-on-first t = behind-thread s T t _ _ (refuse-first T _ NoCall _ _ (none _))

  pub give-first :
      (t i : ℕ) →
      give s T t i ≡ through (refused T) (first (give_lines s T t i)) (outcome (Ok Opened) (given s T t (id_level i) (id_block i)))
  unfolding give give_step held_by first
  give-first t i =
      behind-thread s T t (row CallOpen (is_open T t) ∷ of_block s T t i) made
      (refuse-first T (is_open T t) CallOpen (of_block s T t i) made refl)
    where
      made : Outcome
      made = outcome (Ok Opened) (given s T t (id_level i) (id_block i))

  pub switch-first :
      (t : ℕ) →
      switch s T t
      ≡ through (refused T) (first (switch_lines s T t)) (outcome (Ok Switched) (only_device T T.threads.device.clock (t + 1)))
  unfolding switch switch_step
  switch-first t = behind (refused T) s T _ _ (refuse-first T _ NoThread _ _ (refuse-first T _ IsBlocked _ _ (none _)))

  pub tick-first :
      tick s T
      ≡ through (refused T) (first (tick_lines s T))
      (outcome (Ok (Ticked (length (due_at T.threads (T.threads.device.clock + 1))))) (lent T.pool (ticked s T.threads)))
  unfolding tick tick_step
  tick-first = behind (refused T) s T _ _ (refuse-first T _ ClockAtEnd _ _ (none _))

  pub whole-first : whole s T ≡ through Err (first (of_tables s T)) (cond (is_whole s T) (Ok Whole) (Ok NotWhole))
  unfolding whole
  whole-first = rw (tables-first s T)

  pub cover-first :
      (x : ℕ) →
      cover s T x
      ≡ through Err (first (cover_lines s T x))
      (block_over s T.pool.states x (cover_level s T.pool.states x (s.levels - 1)))
  unfolding cover first
  cover-first x = behind Err s T (row OffsetOutside (not (ltb x (bytes s))) ∷ []) over (go (ltb x (bytes s)) over)
    where
      over : Result Covered Refusal
      over = block_over s T.pool.states x (cover_level s T.pool.states x (s.levels - 1))

      go :
          (b : Bool) (block : Result Covered Refusal) →
          cond b block (Err OffsetOutside)
          ≡ through Err (first (row OffsetOutside (not b) ∷ [])) block
      go true block = refl
      go false block = refl

  pub map_first :
      (places : List ℕ) →
      map_pool s T places
      ≡ through (λ r. map_outcome (Err r) places) (first (map_lines s T places))
      (map_outcome (Ok (length (map_ids s T.pool.states))) (sets places 0 (map_ids s T.pool.states)))
  unfolding map_pool map_row first
  map_first places =
      behind (λ r. map_outcome (Err r) places) s T (row RowTooShort short ∷ []) all (go short all)
    where
      short : Bool
      short = ltb (length places) (length (map_ids s T.pool.states))

      all : MapOutcome
      all = map_outcome (Ok (length (map_ids s T.pool.states))) (sets places 0 (map_ids s T.pool.states))

      go :
          (b : Bool) (listed : MapOutcome) →
          cond b (map_outcome (Err RowTooShort) places) listed
          ≡ through (λ r. map_outcome (Err r) places) (first (row RowTooShort b ∷ [])) listed
      go true listed = refl
      go false listed = refl
