-- One name for all that a call computes with, so that a case is checked by evaluation.
use Rattle.base.specs.Lists.{some}
use Rattle.division.specs.Runs.{reason_of}
use Rattle.division.proofs.Computes.{computes}
use Rattle.calls.specs.Look.{put, in_order, offers, first_false, hand_on, enter_all, list_for, false_list, stop, clashes, offered, looked_by, looked, unjoined, gone}
use Rattle.calls.specs.Table.{code_of, coded, true_in, false_in, unset_in, current_in, some_current, enter, most, knows, variables, rising, entered, too_high, bad_table, has}
use Rattle.calls.specs.Calls.{built, accepted, refuse, taken, noting, adding, settled_by, settled, on_propagate, take_back, on_undo, give_reason, answer_to, tell, on_ask, join_by, one_by, propagate_all, last_by, finish_by, entry, on_initialize, call}
use Rattle.calls.specs.Lines.{print, printing, notified, obey, obey_all, turned, output}

unfoldable pub answers : Unit {0}
unfolding computes reason_of code_of coded true_in false_in unset_in current_in some_current enter some most knows variables rising entered too_high bad_table has put in_order offers first_false hand_on enter_all list_for false_list stop clashes offered looked_by looked unjoined gone built accepted refuse taken noting adding settled_by settled on_propagate take_back on_undo give_reason answer_to tell on_ask join_by one_by propagate_all last_by finish_by entry on_initialize call print printing notified obey obey_all turned output
answers = tt
