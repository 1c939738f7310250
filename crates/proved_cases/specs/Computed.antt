-- What a history on closed tables comes to, by the rules' own definitions.
-- Assumes nothing.
use Rattle.std.specs.Prelude.{Ok, Err, Result, Bool, true, List, ℕ, ◌*◌, ◌+◌, zero, suc, length}
use Rattle.laws.specs.Tests.{every, tally}
use Rattle.laws.specs.Lists.{pad, times, keep, up_from}
use Rattle.shape.specs.declared.Shape.{Shape}
use Rattle.shape.specs.Limits.{parts, unit, allowed}
use Rattle.shape.specs.Blocks.{size, count, level_from, level_for, above, blocks}
use Rattle.shape.specs.Time.{ticks, wait}
use Rattle.rules.specs.Answers.{number, detail, refusal_number}
use Rattle.rules.specs.declared.Covered.{Covered}
use Rattle.rules.specs.Tables.{State, lengths, free_list, put_list, queue_of, put_queue, call_of, put_call, fresh}
use Rattle.rules.specs.Valid.{states_known, list_ends, queue_ends, fields_used, tops_exist, parts_exist, deepest_whole, buddies_merged, free_listed, owners_known, hand_inside, one_to_one, target_kept, waiters_queued, running_ready, size_kept, found_kept, deadline_kept, may_wait, call_kept, calls_kept, pool_valid, threads_valid, hands_valid, valid}
use Rattle.rules.specs.Steps.{deepest, no_room, look_at, look, take_from, take_step, split_step, grant_step, divide_step, merges, merge_step, wake, settle_step, release_step, go_on_step}
use Rattle.rules.specs.Calls.{build, asked_call, ask_step, ask, go_on, give_step, give, switch_step, switch, due, tick_step, tick}
use Rattle.rules.specs.Refusals.{fitting, verdict, running, id_outside, held_by}
use Rattle.rules.specs.Questions.{is_whole, whole, cover_level, cover, listed, map_block, map_ids, map_row, map_pool}
use Rattle.history.specs.History.{Step, step_on, run_steps}
use Rattle.rules.specs.declared.Refusal.{Refusal}

-- the bytes of the FREE blocks that the first levels list
unfoldable pub free_in : Shape → List ℕ → ℕ → ℕ
free_in s lists zero = 0
free_in s lists (suc l) = free_in s lists l + length (free_list s lists l) * size s l

-- where this unfolds every rule does, so that what stands beside it computes
unfoldable pub every_rule : Bool
unfolding every tally pad times keep up_from parts unit allowed size count level_from level_for above blocks ticks wait lengths free_list put_list queue_of put_queue call_of put_call fresh states_known list_ends queue_ends fields_used tops_exist parts_exist deepest_whole buddies_merged free_listed owners_known hand_inside one_to_one target_kept waiters_queued running_ready size_kept found_kept deadline_kept may_wait call_kept calls_kept pool_valid threads_valid hands_valid valid deepest no_room look_at look take_from take_step split_step grant_step divide_step merges merge_step wake settle_step release_step go_on_step build asked_call fitting verdict running ask_step ask go_on id_outside held_by give_step give switch_step switch due tick_step tick is_whole whole cover_level cover listed map_block map_ids map_row map_pool step_on run_steps free_in
every_rule = true

-- fresh tables after a history
abbrev pub after : Shape → List Step → State
after s steps = run_steps s (fresh s) steps

-- the number of a step's answer on these tables
abbrev pub number_on : Shape → State → Step → ℕ
number_on s T x = number (step_on s T x).answer

-- the number and the detail of a step's answer after a history
abbrev pub number_after : Shape → List Step → Step → ℕ
number_after s steps x = number_on s (after s steps) x

abbrev pub detail_after : Shape → List Step → Step → ℕ
detail_after s steps x = detail (step_on s (after s steps) x).answer

-- the bytes of all FREE blocks after a history, and of those that would serve a request
abbrev pub free_after : Shape → List Step → ℕ
free_after s steps = free_in s (after s steps).pool.lists s.levels

abbrev pub room_after : Shape → List Step → ℕ → ℕ
room_after s steps request = free_in s (after s steps).pool.lists (level_for s request + 1)

-- the number with which the questions that have values of their own refuse, and 0 where they don't
abbrev cover_number : Result Covered Refusal → ℕ
cover_number (Err r) = refusal_number r
cover_number (Ok covered) = 0

abbrev map_number : Result ℕ Refusal → ℕ
map_number (Err r) = refusal_number r
map_number (Ok n) = 0

abbrev pub cover_on : Shape → State → ℕ → ℕ
cover_on s T offset = cover_number (cover s T offset)

abbrev pub map_on : Shape → State → List ℕ → ℕ
map_on s T row = map_number (map_pool s T row).answer
