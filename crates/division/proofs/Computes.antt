-- One name for all that an analysis computes with, so that a case is checked by evaluation.
use Rattle.base.specs.Iter.{iter, pick}
use Rattle.base.specs.Lists.{collect, tab, total}
use Rattle.sat.specs.Literal.{negate}
use Rattle.graph.specs.Search.{passes, marked, reached, visited, popped, blank, searched_on}
use Rattle.graph.specs.Paths.{climb}
use Rattle.regions.specs.Buckets.{least_in, most_in}
use Rattle.division.specs.Plan.{touches, across}
use Rattle.division.specs.Regions.{within, weight_from, lowest, region_label}
use Rattle.division.specs.State.{crossed_at}
use Rattle.division.specs.Reasons.{connected_path, decided_region, leaves, potential_region, list_of}
use Rattle.division.specs.Conflicts.{spans, sum_lower, greedy, conflict_list}
use Rattle.division.specs.Analysis.{place, still, propose, ends, guarded, best, inside, matches, loose, matched, uncrossed, overfull, raises, merges, cuts, crowds, meets, parts, spreads_low, spreads_high, spreads, begun, analyzed, forks, same_size, same_size_reason, parted, parts_at, step1, step2, step3, step4, step5}
use Rattle.division.specs.Noting.{raise, lessen, turn, note_one, unnoted, note_all}
use Rattle.division.specs.Views.{weight_of, earlier, insert, sorted, cells_of, members_of, view_of}
use Rattle.division.specs.Runs.{analysis}

unfoldable pub computes : Unit {0}
unfolding crossed_at searched_on popped visited reached marked passes iter pick blank climb negate collect tab total within weight_from connected_path decided_region leaves potential_region list_of spans sum_lower greedy conflict_list place still propose ends guarded lowest best inside matches loose matched uncrossed overfull raises merges cuts crowds meets parts spreads_low spreads_high spreads begun raise lessen turn note_one unnoted note_all weight_of least_in most_in earlier insert sorted cells_of members_of view_of region_label touches across forks same_size same_size_reason parted parts_at step1 step2 step3 step4 step5 analyzed
computes = tt
