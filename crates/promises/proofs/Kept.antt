-- The promises are kept: the one inhabitant of Promises.antt. Assumes nothing.
use mathlib.Core.Path.{sym, ◌∙◌}
use Rattle.rules.proofs.Arrived.{step_described, step_once}
use Rattle.rules.proofs.Chosen.{due_means, open_means}
use Rattle.rules.proofs.StepSound.{step-sound}
use Rattle.turns.proofs.TurnAt.{demand_3_places, no_place_no_send}
use Rattle.rules.proofs.Readings.{readings}
use Rattle.rules.proofs.Credit.{credit_0}
use Rattle.rules.proofs.Bursts.{bursts}
use Rattle.rules.proofs.Costs.{costs}
use Rattle.rules.proofs.Several.{several}
use Rattle.past.proofs.Plain.{cost_1}
use Rattle.past.proofs.Single.{one_and_one_lem}
use Rattle.turns.proofs.WakeFits.{accepted-wakes, accepted-none, wakes_once}
use Rattle.worth.proofs.Worth.{limit_worth}
use Rattle.worth.proofs.Counted.{none_missed}
use Rattle.gate.specs.Promise.{Lending, numbers}
use Rattle.gate.proofs.Lending.{Lawful, numbers-lawful}
use Rattle.gate.proofs.Refusing.{called_exactly, open_exactly, refusal_keeps, opening_keeps}
use Rattle.gate.proofs.Runs.{calls_run}
use Rattle.gate.proofs.Opened.{opened-firm}
use Rattle.gate.proofs.Once.{called_once, opened_once}
use Rattle.gate.proofs.Beyond.{called_beyond, opened_beyond}
use Rattle.gate.proofs.Unread.{called_unread, opened_unread}
use Rattle.gate.proofs.Order.{calls_in_order}
use Rattle.gate.proofs.Demand3.{calls_demand_3_places, calls_no_place}
use Rattle.gate.proofs.Worth.{calls_worth}
use Rattle.gate.proofs.Wakes.{calls_wake, opening-wakes}
use Rattle.records.specs.Promise.{records}
use Rattle.records.proofs.Lawful.{records-lawful}
use Rattle.hands.proofs.Once.{four_once, fifth_once, open_once}
use Rattle.hands.proofs.Runs.{through_exactly, through_open_exactly, through-opened, through-run, through_in_order, through_demand_3, through_worth}
use Rattle.hands.proofs.MovedOnce.{trace_once}
use Rattle.hands.proofs.SalvagedOnce.{salvage_once}
use Rattle.hands.proofs.Wakes.{through-wakes, through-refused-wakes, through-opening-wakes, through-refused-opening-wakes}
use Rattle.trace.proofs.HeaderExactly.{header_exactly}
use Rattle.trace.proofs.LineExactly.{line_exactly, line-numbers, table-sound}
use Rattle.trace.proofs.NoCredit.{no_credit}
use Rattle.moved.proofs.Exactly.{move_exactly, bad_event, dear_event}
use Rattle.moved.proofs.Theorems.{accepted-leaves, up-back, back-up, up-printed, back-printed, once, untouched}
use Rattle.moved.proofs.Upward.{well_formed_goes-up}
use Rattle.salvage.proofs.Exactly.{salvage_exactly}
use Rattle.salvage.proofs.Reasons.{rightly, rightly_once}
use Rattle.salvage.proofs.Rows.{listed, all_told}
use Rattle.salvage.proofs.Theorems.{good-leaves, clean_leaves, second-leaves, well_formed, old_order, once as salvaged_once, untouched as salvaged_untouched}
use Rattle.judge.proofs.Exactly.{accepted_exactly, wrong_exactly}
use Rattle.judge.proofs.Own.{own-accepted}
use Rattle.judge.proofs.Counted.{lines-counted}
use Rattle.judge.proofs.Once.{once as judged_once}
use Rattle.judge.proofs.Readings.{readings as judge_readings}
use Rattle.trace.proofs.RuleOne.{rule_kept, rule_1}
use Rattle.trace.proofs.Order.{trace_in_order}
use Rattle.trace.proofs.Demand3.{trace_demand_3_places}
use Rattle.trace.proofs.Worth.{trace_worth}
use Rattle.batch.proofs.Exactly.{batch_exactly}
use Rattle.batch.proofs.Kept.{batch_refusal_keeps, answers_past}
use Rattle.batch.proofs.Once.{batch_once}
use Rattle.batch.proofs.OneByOne.{batch_as_calls}
use Rattle.batch.proofs.Demand3.{batches_firm, batches_demand_3}
use Rattle.batch.proofs.Worth.{batches_worth}
use Rattle.batch.proofs.Beyond.{batch_beyond, batch_unread}
use Rattle.book.proofs.Balance.{balance, fresh_arrivals, fresh_covered}
use Rattle.book.proofs.Waits.{fresh_book, sent_waited}
use Rattle.book.proofs.Sizes.{summed_fits}
use Rattle.book.proofs.Sums.{first-waits}
use Rattle.clock.proofs.Exactly.{read_exactly, refusal_keeps as reading-keeps, accepted-tells, past_ceiling}
use Rattle.clock.proofs.Once.{read_once}
use Rattle.clock.proofs.Rising.{never_falls}
use Rattle.clock.proofs.TrueTime.{true_time, first_past, unseen}
use Rattle.houses.proofs.Exactly.{asked_exactly, begun_exactly}
use Rattle.houses.proofs.Keeps.{asked_keeps, begun_keeps}
use Rattle.arrays.proofs.Once.{seen-at_once}
use Rattle.houses.proofs.Untouched.{asked_beyond, begun_beyond}
use Rattle.houses.proofs.Unread.{begun_unread}
use Rattle.houses.proofs.Begins.{all-begun}
use Rattle.houses.proofs.Counted.{counted_exactly}
use Rattle.houses.proofs.Demand3.{house_demand_3}
use Rattle.houses.proofs.GoodHouse.{good-run}
use Rattle.houses.proofs.Readings.{readings as house_readings}
use Rattle.promises.proofs.Promises.{OnTheRules, OverLent, OfABatch, ThroughC, OfATrace, OfTheMoves, OfTheSalvage, OfTheJudge, OfTheSheet, OfTheClock, OfTheArrays, Promises}

rules_kept : OnTheRules
rules_kept =
    record {
      described = step_described;
      once = step_once;
      due_means = due_means;
      open_means = open_means;
      sound-kept = step-sound;
      demand_3 = demand_3_places;
      no_place_no_send = no_place_no_send;
      wakes = accepted-wakes;
      wakes-none = accepted-none;
      wakes_once = wakes_once;
      worth = limit_worth;
      none_missed = none_missed;
      credit_0 = credit_0;
      cost_1 = cost_1;
      one_and_one = one_and_one_lem;
      readings = readings;
      bursts = bursts;
      costs = costs;
      several = several;
    }

lent-kept : (v : Lending) (lawful : Lawful v) → OverLent v lawful
lent-kept v lawful =
    record {
      called_exactly = called_exactly v lawful;
      opened_exactly = open_exactly v;
      refusal_keeps = refusal_keeps v;
      opening_keeps = opening_keeps v;
      opens = opened-firm v lawful;
      runs = calls_run v lawful;
      called_once = called_once v;
      opened_once = opened_once v;
      called_untouched = called_beyond v lawful;
      opened_untouched = opened_beyond v lawful;
      called_unread = called_unread v lawful;
      opened_unread = opened_unread v lawful;
      in_order = calls_in_order v lawful;
      demand_3 = calls_demand_3_places v lawful;
      no_place_no_send = calls_no_place v lawful;
      worth = calls_worth v lawful;
      wakes = calls_wake v lawful;
      opening-wakes = opening-wakes v lawful;
    }

batch-kept : (v : Lending) → Lawful v → OfABatch v
batch-kept v lawful =
    record {
      exactly = batch_exactly v;
      refusal_keeps = batch_refusal_keeps v;
      spare_places = answers_past v;
      once = batch_once v;
      untouched = batch_beyond v lawful;
      unread = batch_unread v lawful;
      as_calls = batch_as_calls v;
      stays_firm = batches_firm v lawful;
      demand_3 = batches_demand_3 v lawful;
      worth = batches_worth v lawful;
    }

c-kept : ThroughC
c-kept =
    record {
      called_exactly = through_exactly;
      opened_exactly = through_open_exactly;
      opens = through-opened;
      runs = through-run;
      called_once = λ b c h e p q. p ∙ sym q;
      opened_once = open_once;
      four_once = four_once;
      fifth_once = fifth_once;
      in_order = through_in_order;
      demand_3 = through_demand_3;
      worth = through_worth;
      wakes = through-wakes;
      refused-wakes = through-refused-wakes;
      opening-wakes = through-opening-wakes;
      refused-opening-wakes = through-refused-opening-wakes;
    }

trace-kept : OfATrace
trace-kept =
    record {
      header_exactly = header_exactly;
      line_exactly = line_exactly;
      line-numbers = line-numbers;
      table-sound = table-sound;
      rule_kept = rule_kept;
      rule_1 = rule_1;
      no_credit = no_credit;
      in_order = trace_in_order;
      demand_3 = trace_demand_3_places;
      worth = trace_worth;
    }

move_up-kept : OfTheMoves 1 2
move_up-kept =
    record {
      moved_exactly = move_exactly 1 2;
      bad_named = bad_event;
      dear_named = dear_event;
      moved-leaves = accepted-leaves 1 2;
      there_and_back = up-back;
      printed-same = up-printed;
      moved_once = once 1 2;
      moved_once_as_c = trace_once 1 2;
      moved_untouched = untouched 1 2;
    }

move_back-kept : OfTheMoves 2 1
move_back-kept =
    record {
      moved_exactly = move_exactly 2 1;
      bad_named = bad_event;
      dear_named = dear_event;
      moved-leaves = accepted-leaves 2 1;
      there_and_back = back-up;
      printed-same = back-printed;
      moved_once = once 2 1;
      moved_once_as_c = trace_once 2 1;
      moved_untouched = untouched 2 1;
    }

salvage_kept : OfTheSalvage
salvage_kept =
    record {
      salvaged_exactly = salvage_exactly;
      rightly = rightly;
      rightly_once = rightly_once;
      listed = listed;
      all_told = all_told;
      salvaged-leaves = good-leaves;
      clean_stays = clean_leaves;
      second_pass = second-leaves;
      well_formed = well_formed;
      old_order = old_order;
      salvaged_once = salvaged_once;
      salvaged_once_as_c = salvage_once;
      salvaged_untouched = salvaged_untouched;
    }

judge_kept : OfTheJudge
judge_kept =
    record {
      lines-accepted_exactly = accepted_exactly;
      first_wrong_exactly = wrong_exactly;
      judged_once = judged_once;
      lines-counted = lines-counted;
      own-accepted = own-accepted;
      judge_readings = judge_readings;
    }

sheet-kept : OfTheSheet
sheet-kept =
    record {
      balance = balance;
      arrivals = fresh_arrivals;
      left = fresh_covered;
      book = fresh_book;
      wait = sent_waited;
      waits = first-waits;
      fits = summed_fits;
    }

clock_kept : OfTheClock
clock_kept =
    record {
      exactly = read_exactly;
      refusal_keeps = reading-keeps;
      accepted-tells = accepted-tells;
      past_ceiling = past_ceiling;
      once = read_once;
      never_falls = never_falls;
      true_time = true_time;
      first_past = first_past;
      unseen = unseen;
    }

arrays_kept : OfTheArrays
arrays_kept =
    record {
      asked_exactly = asked_exactly;
      begun_exactly = begun_exactly;
      asked_keeps = asked_keeps;
      begun_keeps = begun_keeps;
      once = seen-at_once;
      asked_untouched = asked_beyond;
      begun_untouched = begun_beyond;
      begun_unread = begun_unread;
      begins = all-begun;
      counted_exactly = counted_exactly;
      demand_3 = house_demand_3;
      stays_good = good-run;
      house_readings = house_readings;
    }

-- What the product promises is kept.
pub promises : Promises
promises =
    record {
      on_the_rules = rules_kept;
      over-numbers = lent-kept numbers numbers-lawful;
      over-records = lent-kept records records-lawful;
      through-c = c-kept;
      of-a-batch = batch-kept numbers numbers-lawful;
      of-a-batch-of-records = batch-kept records records-lawful;
      of-a-trace = trace-kept;
      of_the_move_up = move_up-kept;
      of_the_move_back = move_back-kept;
      goes-up = well_formed_goes-up;
      of_the_salvage = salvage_kept;
      of_the_judge = judge_kept;
      of_the_sheet = sheet-kept;
      of_the_clock = clock_kept;
      of_the_arrays = arrays_kept;
    }
