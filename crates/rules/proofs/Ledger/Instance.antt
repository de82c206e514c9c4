-- The theorem at one boot and one list: its hypotheses hold there, and what it says is computed. Assumes nothing.
use Rattle.std.proofs.Common.{◌≡◌, ℕ, ◌+◌, ◌<◌, Bool, true, false, not, ◌&&◌, eqb, ◌≢◌, List, [], ◌∷◌, ◌++◌, map, length, replicate, refl, ap, ◌∙◌, subst, arith}
use mathlib.Core.List.{flat_map}
use Rattle.answer.specs.Answers.{done, refused, refused_at}
use Rattle.search.specs.Search.{lowest_from, lowest, some, every, how_many, highest_from, stretch, longest}
use Rattle.bitmap.specs.Bits.{is_clear, change_bit, change_bits}
use Rattle.frames.specs.Units.{frame, place}
use Rattle.rules.specs.Record.{place_of}
use Rattle.frames.specs.Areas.{in_areas, first_word}
use Rattle.frames.specs.Marks.{kind_of, mark_of, pinned, fixed}
use Rattle.frames.specs.Tables.{mark_at, owner_at, fill}
use Rattle.text.specs.Bytes.{digit_of, unit_of, is_name_byte}
use Rattle.text.specs.Names.{name_length, same_bytes}
use Rattle.text.specs.Numbers.{digits_end, digits_value, digits, number}
use Rattle.text.specs.Writing.{decimal_up_to, decimal, four_numbers}
use Rattle.regions.specs.Amounts.{is_power_of_two, amount}
use Rattle.regions.specs.Text.{is_named, region, regions_from, regions}
use Rattle.rules.specs.Shape.{memory_right, lengths_right, area_right, area_fits, shape_right}
use Rattle.rules.specs.Outcomes.{checked}
use Rattle.rules.specs.PageCalls.{page_at, free_ordinary, free_in_area, put_at, put_page, drop_page, change_kind, store_page, read_page}
use Rattle.rules.specs.DeviceCalls.{is_candidate, is_grantable, chosen, movers, move_page, move_out, take_run, grant, later_frames, free_run, release, device_store, device_read}
use Rattle.rules.specs.Targets.{is_target, targets, first_target}
use Rattle.rules.specs.Counters.{counters, after_grant, since}
use Rattle.rules.specs.Report.{used_of, max_chunk, sum_over, amount_line, area_line, lines_over, report_of, report, reported}
use Rattle.rules.specs.Declare.{alignment_for, base_for, size_for, limit_for, is_vacant, fits_at, highest_fit, declare}
use Rattle.rules.specs.Boot.{declare_all, boot_record, boot}
use Rattle.rules.specs.Promises.Shapes.{InArea}
use Rattle.rules.specs.Ledger.Ledger.{grant_of, grants_at, without, update}
use Rattle.rules.specs.Ledger.Lists.{Item, State, is_refused, next, after, admitted, frame_of_page, last_pin_frame, grants_answered, is_done, SameList, same, other_word, other_buffer, none, more, seen, Seen}
use Rattle.rules.specs.Ledger.Statement.{page_read, frame_read, frame_release, mark_of_page, is_granted_place, is_live_frame, device_of, outcome_of_boot, start_of_boot, Demand3}
use Rattle.rules.specs.Ledger.Instance.{instance_boot, placed, after_stores, instance_list, five_and_six}
use Rattle.rules.proofs.Ledger.Demand3.{theorem}

abbrev start : State
start = start_of_boot (instance_boot 9)

abbrev end : State
end = after start (instance_list 77)

-- what is computed of the boot, the list and the ledger
record Computed : Type 0 where
  -- the theorem's two hypotheses
  pub accepted : is_refused (outcome_of_boot (instance_boot 9)) ≡ false
  pub admits : admitted start (instance_list 77) ≡ true
  -- every answer
  pub answers :
      map (λ (x : Seen). x.answer) (seen (λ _. false) start (instance_list 77)) ≡
      -- placed
      done 12 4 ∷
      done 4 0 ∷
      done 5 0 ∷
      done 6 0 ∷
      done 7 0 ∷
      done 8 0 ∷
      done 9 0 ∷
      done 0 0 ∷
      done 0 0 ∷
      done 0 0 ∷
      done 12 0 ∷
      -- stored
      done 0 0 ∷
      refused 5 ∷
      refused 1 ∷
      -- refused_on_own
      refused 4 ∷
      refused 6 ∷
      refused 5 ∷
      refused 5 ∷
      refused 5 ∷
      refused 3 ∷
      refused 3 ∷
      refused 8 ∷
      refused 3 ∷
      refused 3 ∷
      refused 2 ∷
      refused 2 ∷
      refused_at 1 0 ∷
      refused 16 ∷
      -- refused_on_others
      refused 6 ∷
      refused 4 ∷
      refused 3 ∷
      refused 3 ∷
      refused 5 ∷
      refused 1 ∷
      refused 1 ∷
      refused 7 ∷
      refused 14 ∷
      refused 15 ∷
      refused 9 ∷
      refused 3 ∷
      refused 1 ∷
      refused_at 20 0 ∷
      refused 1 ∷
      -- granted
      done 0 0 ∷
      done 0 0 ∷
      done 0 0 ∷
      refused 9 ∷
      refused 15 ∷
      done 0 0 ∷
      done 5 0 ∷
      done 9 1 ∷
      done 12 77 ∷
      done 12 1 ∷
      done 0 0 ∷
      refused 15 ∷
      done 0 0 ∷
      done 10 77 ∷
      done 6 33 ∷
      refused 15 ∷
      done 55 0 ∷
      -- the report
      done 57 0 ∷
      []
  -- its bytes, and none of any other call
  pub reports :
      flat_map (λ (x : Seen). x.report) (seen (λ _. false) start (instance_list 77)) ≡
      -- CmaTotal: 32 kB
      67 ∷ 109 ∷ 97 ∷ 84 ∷ 111 ∷ 116 ∷ 97 ∷ 108 ∷ 58 ∷ 32 ∷ 51 ∷ 50 ∷ 32 ∷ 107 ∷ 66 ∷ 10 ∷
      -- CmaFree: 28 kB
      67 ∷ 109 ∷ 97 ∷ 70 ∷ 114 ∷ 101 ∷ 101 ∷ 58 ∷ 32 ∷ 50 ∷ 56 ∷ 32 ∷ 107 ∷ 66 ∷ 10 ∷
      -- area 0 4 1 2
      97 ∷ 114 ∷ 101 ∷ 97 ∷ 32 ∷ 48 ∷ 32 ∷ 52 ∷ 32 ∷ 49 ∷ 32 ∷ 50 ∷ 10 ∷
      -- area 1 4 0 4
      97 ∷ 114 ∷ 101 ∷ 97 ∷ 32 ∷ 49 ∷ 32 ∷ 52 ∷ 32 ∷ 48 ∷ 32 ∷ 52 ∷ 10 ∷
      []
  -- three grants were accepted; one was refused by its page, which had nowhere to go, and one by its bits
  pub counted : end.counters ≡ counters 3 2
  -- each is seen right after the call that it counts
  pub seen_counters :
      map (λ (x : Seen). x.counters) (seen (λ _. false) start (instance_list 77)) ≡
      replicate 10 (counters 0 0) ++ replicate 11 (counters 1 0) ++ replicate 14 (counters 1 1) ++ replicate 15 (counters 1 2) ++
      (counters 2 2 ∷ counters 2 2 ∷ replicate 9 (counters 3 2))
  pub three : grants_answered is_done (after start []) (instance_list 77) ≡ 3
  pub short : length (instance_list 77) < 4294967296
  -- the ledger: pages 6 and 2, the pin of page 5 and the unpin of page 6, the one live grant, its word, and the totals
  pub six_live : end.ledger.live 6 ≡ true
  pub six_word : end.ledger.word 6 ≡ 77
  pub two_gone : end.ledger.live 2 ≡ false
  pub five_pinned : end.ledger.pinned 5 ≡ true
  pub six_unpinned : end.ledger.pinned 6 ≡ false
  pub five_frame : last_pin_frame 5 0 start (instance_list 77) ≡ 8
  -- page 6 was pinned at frame 9, and stands at 10 now: no call but a pin counts as one
  pub six_frame : last_pin_frame 6 0 start (instance_list 77) ≡ 9
  pub one_grant : end.ledger.grants ≡ grant_of (frame 9) 1 ∷ []
  pub nine_live : is_live_frame end (frame 9) ≡ true
  pub nine_word : end.ledger.device_word 9 ≡ 55
  pub nine_device : device_of end (frame 9) ≡ 7
  -- page 3 stands at frame 6, the place after the first two
  pub base : end.machine.memory.base.0 ≡ 4
  pub frames : end.machine.memory.frames ≡ 12
  pub three_fixed : mark_at end.own (place 2) ≡ mark_of 3 fixed
  pub thirteen_free : is_live_frame end (frame 13) ≡ false
  pub granted : end.ledger.granted ≡ 7
  pub released : end.ledger.released ≡ 6

computed : Computed
unfolding flat_map grants_answered after admitted last_pin_frame seen next after_grant report reported report_of used_of max_chunk amount_line area_line sum_over lines_over four_numbers decimal decimal_up_to longest stretch update grants_at without lowest_from lowest some every how_many highest_from is_clear change_bit change_bits in_areas first_word fill digit_of digits_end digits_value unit_of digits number is_power_of_two amount is_name_byte name_length is_named same_bytes region regions_from regions memory_right lengths_right area_right area_fits shape_right checked page_at free_ordinary free_in_area put_at put_page drop_page change_kind store_page read_page is_candidate is_grantable chosen movers is_target targets first_target move_page move_out take_run grant later_frames free_run release device_store device_read alignment_for base_for size_for limit_for is_vacant fits_at highest_fit declare declare_all boot_record boot
computed =
    record {
      accepted = refl;
      admits = refl;
      answers = refl;
      reports = refl;
      counted = refl;
      seen_counters = refl;
      three = refl;
      short = omega arith;
      six_live = refl;
      six_word = refl;
      two_gone = refl;
      five_pinned = refl;
      six_unpinned = refl;
      five_frame = refl;
      six_frame = refl;
      one_grant = refl;
      nine_live = refl;
      nine_word = refl;
      nine_device = refl;
      base = refl;
      frames = refl;
      three_fixed = refl;
      thirteen_free = refl;
      granted = refl;
      released = refl;
    }

-- the theorem speaks of this boot and this list
demand3_here : Demand3 (instance_boot 9) (instance_list 77)
demand3_here = theorem (instance_boot 9) (instance_list 77) computed.accepted computed.admits

-- (1) the page that moved is read where it is now, with the word that was stored before; the page that was dropped is not read
pub read_six : (page_read end 6).answer.second ≡ 77
read_six = demand3_here.reads.word 6 computed.six_live ∙ computed.six_word

pub read_two : not (is_refused (page_read end 2)) ≡ false
read_two = demand3_here.reads.accepted 2 ∙ computed.two_gone

-- (2) the pinned page stays in the area, where it was pinned
pub five_stays : frame_of_page end 5 ≡ 8
five_stays = demand3_here.pins.stays 5 0 computed.five_pinned ∙ computed.five_frame

pub five_marked : mark_of_page end 5 ≡ mark_of 5 pinned
five_marked = demand3_here.pinned.marked 5 computed.five_pinned

-- page 6 was pinned, and is no longer
pub six_not_pinned : kind_of (mark_of_page end 6) ≢ pinned
six_not_pinned = demand3_here.pinned.unmarked 6 computed.six_live computed.six_unpinned

-- (3) one frame is granted: seven were, and six were released
pub one_granted : how_many (is_granted_place end) 0 end.machine.memory.frames ≡ 1
one_granted =
    let total = demand3_here.grants.total in
    let granted = computed.granted in
    let released = computed.released in
    omega arith

-- (4) device 7 reads its word at frame 9, and device 8 does not; frame 13 has none
pub nine_read : (frame_read end (frame 9) 7).answer.first ≡ 55
nine_read =
    subst (λ (device : ℕ). (frame_read end (frame 9) device).answer.first ≡ 55) computed.nine_device
    (demand3_here.device_words.given (frame 9) computed.nine_live ∙ computed.nine_word)

pub nine_others : (frame_read end (frame 9) 8).answer.refusal ≡ 15
nine_others = demand3_here.device_words.others (frame 9) 8 computed.nine_live (omega arith) (omega arith) (λ e. absurd (omega (arith, computed.nine_device)))

pub thirteen_refused : not (is_refused (frame_read end (frame 13) 8)) ≡ false
thirteen_refused = demand3_here.device_words.accepted (frame 13) 8 ∙ ap (λ (b : Bool). b && eqb 8 (device_of end (frame 13))) computed.thirteen_free

-- (5) frame 9 is device 7's, and device 8 cannot release it
pub nine_owner : owner_at end.own (place_of end.machine (frame 9)) ≡ 7
nine_owner = demand3_here.owners.owner (frame 9) computed.nine_live ∙ computed.nine_device

pub nine_kept : (frame_release end 0 (frame 9) 1 8).left ≡ end.own
nine_kept = (demand3_here.owners.releases 0 (frame 9) 1 8 (λ _ e. absurd (omega (arith, computed.nine_device)))).2

-- (6) three grants were accepted, from the list's start to its end
pub three_granted : since end.counters.granted (after start []).counters.granted ≡ 3
three_granted = demand3_here.counters.granted [] (instance_list 77) refl computed.short ∙ computed.three

-- (7) no area has frame 6, where the fixed page 3 stands
pub six_ordinary : (area : ℕ) → InArea end.machine 6 area → ⊥
six_ordinary area =
    let six : end.machine.memory.base.0 + 2 ≡ 6 = omega (arith, computed.base) in
    subst (λ (f : ℕ). InArea end.machine f area → ⊥) six
    (demand3_here.fixed.outside 2 area (omega (arith, computed.frames)) (ap kind_of computed.three_fixed))

-- (8) other words to pages 6 and 5 and other bytes in the report's buffer, after a boot on other tables: the same answers, but for the words that
-- reads of these pages give, the same counters and the same report
same_first :
    (chosen : ℕ → Bool) (first : List Item) {xs ys : List Item} → SameList chosen xs ys → SameList chosen (first ++ xs) (first ++ ys)
same_first chosen [] rest = rest
same_first chosen (x ∷ first) rest = more (same x.call x.bytes) (same_first chosen first rest)

lists_but_for_words : SameList five_and_six (instance_list 77) (instance_list 78)
lists_but_for_words =
    same_first five_and_six placed
    (more (other_word 6 77 78 [] refl)
    (more (other_word 5 77 78 [] refl)
    (more (other_word 6 77 78 [] refl)
    (same_first five_and_six after_stores (more (other_buffer (replicate 60 77) (replicate 60 78) refl) none)))))

pub runs_agree : seen five_and_six (start_of_boot (instance_boot 9)) (instance_list 77) ≡ seen five_and_six (start_of_boot (instance_boot 3)) (instance_list 78)
runs_agree =
    (demand3_here.runs (instance_boot 3)
    (record { base = refl; frames = refl; block_order = refl; text = refl; lengths = record { marks = refl; words = refl; bitmap = refl; owners = refl } })).agree five_and_six
    (instance_list 78) lists_but_for_words
