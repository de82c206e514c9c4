-- Replay's output for the examples: the checker computes it. Assumes nothing.
use mathlib.Core.Path.{refl}
use Rattle.search.specs.Search.{lowest_from, lowest, highest_from, some, every, how_many}
use Rattle.bitmap.specs.Bits.{is_clear, change_bit, change_bits}
use Rattle.frames.specs.Areas.{in_areas, first_word}
use Rattle.frames.specs.Tables.{fill}
use Rattle.regions.specs.Amounts.{is_power_of_two}
use Rattle.regions.specs.Text.{regions_from, regions}
use Rattle.rules.specs.Shape.{memory_right, lengths_right, area_right, area_fits, shape_right}
use Rattle.rules.specs.Outcomes.{checked}
use Rattle.rules.specs.PageCalls.{page_at, free_ordinary, free_in_area, put_at, put_page, read_page}
use Rattle.rules.specs.DeviceCalls.{is_candidate, is_grantable, chosen, movers, move_page, move_out, take_run, grant}
use Rattle.rules.specs.Targets.{is_target, targets, first_target}
use Rattle.rules.specs.Declare.{alignment_for, base_for, size_for, limit_for, is_vacant, fits_at, highest_fit, declare}
use Rattle.rules.specs.Boot.{declare_all, boot_record, boot}
use Rattle.records.specs.Records.{little, bodies, body_of, sum, numbers, body_length, body_at, decode_at}
use Rattle.text.specs.Writing.{decimal_up_to, decimal, four_numbers, labelled}
use Rattle.records.specs.Lines.{heading}
use Rattle.playback.specs.Playback.{frames_for, answer_to}
use Rattle.playback.specs.Replay.{lines_up_to, lines_of, replay_output}
use Rattle.playback.specs.ReplayExamples.{Examples}

pub examples_hold : Examples
unfolding lowest_from lowest highest_from some every how_many is_clear change_bit change_bits in_areas first_word fill is_power_of_two regions_from regions memory_right lengths_right area_right area_fits shape_right checked page_at free_ordinary free_in_area put_at put_page read_page is_candidate is_grantable chosen movers is_target targets first_target move_page move_out take_run grant alignment_for base_for size_for limit_for is_vacant fits_at highest_fit declare declare_all boot_record boot little bodies body_of sum numbers body_length body_at decode_at decimal_up_to decimal labelled heading four_numbers frames_for answer_to lines_up_to lines_of replay_output
examples_hold = record { printed = refl; empty = refl; not_booted = refl; cut = refl; unknown = refl; words96 = refl; frames2048 = refl }
