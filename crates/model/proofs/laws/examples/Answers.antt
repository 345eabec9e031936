use Rattle.std.proofs.Common.{refl, lit<, lit≤}
use Rattle.model.proofs.Computed.{listing_answered, inserts}
use Rattle.model.proofs.laws.examples.Goals as goal

pub returns : goal.returns
returns c = record {
  run_entries_short = refl;
  run_entries_enough = refl;
  largest = refl;
  larger_volume = refl;
  more_extent_entries = refl;
  more_run_entries = refl;
  smallest = refl;
  no_volume = refl;
  no_extent_entries = refl;
  small_card = refl;
  last_file = λ v e. refl;
  longest_file = λ v e. inserts v e 16777216 (lit< tt) (lit≤ tt);
  too_long_file = λ v e. refl;
  one_entry = refl;
  whole_4 = refl;
  split_4 = refl;
  split_8 = refl;
  split_9 = refl;
  lowest_of_equals = refl;
  eight_pieces = refl;
  nine_pieces = refl;
  tour_answered = refl;
  moved_shown = refl;
  listing_answered = listing_answered;
}
