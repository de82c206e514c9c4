-- The examples hold of the definitions: the checker computes the whole list. Assumes nothing.
use mathlib.Core.Bool.{true}
use mathlib.Core.Path.{◌≡◌, refl}
use Rattle.search.specs.Search.{lowest_from, lowest, highest_from, some, every, how_many, stretch, longest}
use Rattle.bitmap.specs.Bits.{is_clear, change_bit, change_bits}
use Rattle.frames.specs.Areas.{in_areas, first_word}
use Rattle.frames.specs.Tables.{fill}
use Rattle.regions.specs.Amounts.{is_power_of_two}
use Rattle.regions.specs.Text.{regions_from, regions}
use Rattle.rules.specs.Shape.{memory_right, lengths_right, area_right, area_fits, shape_right}
use Rattle.rules.specs.Outcomes.{checked}
use Rattle.rules.specs.PageCalls.{page_at, free_ordinary, free_in_area, put_at, put_page, drop_page, change_kind}
use Rattle.rules.specs.DeviceCalls.{is_candidate, is_grantable, chosen, movers, move_page, move_out, take_run, grant, later_frames, free_run, release}
use Rattle.rules.specs.Targets.{is_target, targets, first_target}
use Rattle.rules.specs.Declare.{alignment_for, base_for, size_for, limit_for, is_vacant, fits_at, highest_fit, declare}
use Rattle.rules.specs.Boot.{declare_all, boot_record, boot}
use Rattle.rules.specs.Report.{used_of, max_chunk, sum_over, amount_line, area_line, lines_over, report_of}
use Rattle.text.specs.Writing.{decimal_up_to, decimal, four_numbers}
use Rattle.station_examples.specs.Claim.{is_right, all_right, report_after}
use Rattle.station_examples.specs.Examples.{examples, Reports}

pub examples_hold : all_right examples ≡ true
unfolding is_right all_right lowest_from lowest highest_from some every how_many is_clear change_bit change_bits in_areas first_word fill is_power_of_two regions_from regions memory_right lengths_right area_right area_fits shape_right checked page_at free_ordinary free_in_area put_at put_page drop_page change_kind is_candidate is_grantable chosen movers is_target targets first_target move_page move_out take_run grant later_frames free_run release alignment_for base_for size_for limit_for is_vacant fits_at highest_fit declare declare_all boot_record boot
examples_hold = refl

pub reports_hold : Reports
unfolding report_after report_of used_of max_chunk sum_over amount_line area_line lines_over four_numbers decimal decimal_up_to stretch longest lowest_from lowest highest_from some every how_many is_clear change_bit change_bits in_areas first_word fill is_power_of_two regions_from regions memory_right lengths_right area_right area_fits shape_right checked page_at free_ordinary free_in_area put_at put_page drop_page change_kind is_candidate is_grantable chosen movers is_target targets first_target move_page move_out take_run grant later_frames free_run release alignment_for base_for size_for limit_for is_vacant fits_at highest_fit declare declare_all boot_record boot
reports_hold = record { e1 = refl; none = refl; four_to_a_bit = refl }
