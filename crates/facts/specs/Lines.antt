-- What valid tables give, line by line: one field for each line of `valid`.
-- Assumes nothing.
use Rattle.std.specs.Prelude.{◌≡◌, true, List, ℕ}
use Rattle.laws.specs.Tests.{both, both_of}
use Rattle.shape.specs.declared.Shape.{Shape}
use Rattle.shape.specs.Limits.{allowed}
use Rattle.rules.specs.Numbers.{FREEING, ALLOCATING}
use Rattle.rules.specs.Tables.{Pool, Threads, State, lengths}
use Rattle.rules.specs.Valid.{states_known, owners_known, tops_exist, parts_exist, deepest_whole, buddies_merged, list_ends, free_listed, calls_kept, dividing, releasing, one_to_one, queue_ends, waiters_queued, running_ready, pool_valid, threads_valid, hands_valid, valid}

-- tables that no call refuses: an allowed shape, the right lengths, a valid state
pub record Sound (s : Shape) (T : State) : Type 0 where
  pub shape : allowed s ≡ true
  pub lengths : lengths s T ≡ true
  pub valid : valid s T ≡ true

-- what is said of a pool alone
pub record PoolFacts (s : Shape) (P : Pool) : Type 0 where
  pub states_known : states_known s P.states ≡ true
  pub list_ends : list_ends s P.lists ≡ true
  pub tops_exist : tops_exist s P.states ≡ true
  pub parts_exist : parts_exist s P.states ≡ true
  pub deepest_whole : deepest_whole s P.states ≡ true
  pub buddies_merged : buddies_merged s P.states ≡ true
  pub free_listed : free_listed s P.states P.lists ≡ true
  pub owners_known : owners_known s P.states P.owners ≡ true

-- what is said of the threads alone
pub record ThreadsFacts (s : Shape) (W : Threads) : Type 0 where
  pub queue_ends : queue_ends s W.queue ≡ true
  pub calls_kept : calls_kept s W.device.clock W.calls ≡ true
  pub waiters_queued : waiters_queued s W.calls W.queue ≡ true
  pub running_ready : running_ready s W.calls W.device ≡ true

-- what joins the two
pub record HandsFacts (s : Shape) (states calls : List ℕ) : Type 0 where
  pub allocating : one_to_one ALLOCATING dividing s states calls ≡ true
  pub freeing : one_to_one FREEING releasing s states calls ≡ true

pub record ValidFacts (s : Shape) (T : State) : Type 0 where
  pub pool : PoolFacts s T.pool
  pub threads : ThreadsFacts s T.threads
  pub hands : HandsFacts s T.pool.states T.threads.calls

pub pool-facts : (s : Shape) (P : Pool) → pool_valid s P ≡ true → PoolFacts s P
unfolding pool_valid
pool-facts s P e =
    let f1 = both _ _ e in
    let f2 = both _ _ f1.0 in
    let f3 = both _ _ f2.0 in
    let f4 = both _ _ f3.0 in
    let f5 = both _ _ f4.0 in
    let f6 = both _ _ f5.0 in
    let f7 = both _ _ f6.0 in
    record {
      states_known = f7.0;
      list_ends = f7.1;
      tops_exist = f6.1;
      parts_exist = f5.1;
      deepest_whole = f4.1;
      buddies_merged = f3.1;
      free_listed = f2.1;
      owners_known = f1.1;
    }

pub pool-valid : (s : Shape) (P : Pool) → PoolFacts s P → pool_valid s P ≡ true
unfolding pool_valid
pool-valid s P f =
    both_of _ _
    (both_of _ _
    (both_of _ _
    (both_of _ _
    (both_of _ _ (both_of _ _ (both_of _ _ f.states_known f.list_ends) f.tops_exist) f.parts_exist)
    f.deepest_whole)
    f.buddies_merged)
    f.free_listed)
    f.owners_known

pub threads-facts : (s : Shape) (W : Threads) → threads_valid s W ≡ true → ThreadsFacts s W
unfolding threads_valid
threads-facts s W e =
    let f1 = both _ _ e in
    let f2 = both _ _ f1.0 in
    let f3 = both _ _ f2.0 in
    record { queue_ends = f3.0; calls_kept = f3.1; waiters_queued = f2.1; running_ready = f1.1 }

pub threads-valid : (s : Shape) (W : Threads) → ThreadsFacts s W → threads_valid s W ≡ true
unfolding threads_valid
threads-valid s W f =
    both_of _ _ (both_of _ _ (both_of _ _ f.queue_ends f.calls_kept) f.waiters_queued) f.running_ready

-- the lines of `valid`, and that they are all that it says
pub valid-facts : (s : Shape) (T : State) → valid s T ≡ true → ValidFacts s T
unfolding valid hands_valid
valid-facts s T e =
    let f1 = both _ _ e in
    let f2 = both _ _ f1.0 in
    let hands = both _ _ f1.1 in
    record {
      pool = pool-facts s T.pool f2.0;
      threads = threads-facts s T.threads f2.1;
      hands = record { allocating = hands.0; freeing = hands.1 };
    }

pub facts-valid : (s : Shape) (T : State) → ValidFacts s T → valid s T ≡ true
unfolding valid hands_valid
facts-valid s T f =
    both_of _ _ (both_of _ _ (pool-valid s T.pool f.pool) (threads-valid s T.threads f.threads))
    (both_of _ _ f.hands.allocating f.hands.freeing)
