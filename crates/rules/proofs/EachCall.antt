-- A law of every call: it is a list of checks, or a boot; and of the checks only the shape's looks at the words. Assumes nothing.
--     each_twice    of a call on some tables and on the same with other words
--     each_call     of a call
use Rattle.std.proofs.Common.{◌≡◌, ℕ, true, List, ◌∷◌, refl}
use Rattle.frames.specs.declared.Frame.{Frame}
use Rattle.frames.specs.Tables.{Tables, tables}
use Rattle.rules.specs.declared.Call.{Call}
use Rattle.rules.specs.declared.Record.{Record}
use Rattle.rules.specs.Shape.{shape_wrong}
use Rattle.rules.specs.Outcomes.{Outcome, Check, ◌⇒◌, checked}
use Rattle.rules.specs.PageCalls.{page_at, free_ordinary, free_in_area, put_at}
use Rattle.rules.specs.PageCalls as Page
use Rattle.rules.specs.DeviceCalls.{is_candidate, is_grantable, chosen, movers, later_frames}
use Rattle.rules.specs.Targets.{is_target, targets}
use Rattle.rules.specs.DeviceCalls as Device
use Rattle.rules.specs.Declare.{is_vacant, fits_at, highest_fit}
use Rattle.rules.specs.Declare as Declare
use Rattle.rules.specs.Report as Report
use Rattle.rules.specs.Calls.{perform}
use Rattle.rules.proofs.Checks.{numbered}

abbrev pub other_words : Tables → List ℕ → Tables
other_words t words = tables t.marks words t.bitmap t.owners

-- the shape is checked first, and then the rest
abbrev pub shape_first : Record → Tables → List Check → Outcome → Outcome
shape_first m t rest o = checked m t (shape_wrong m t ⇒ 1 ∷ rest) o

-- what holds of every list of checks with refusals' numbers, and of every boot, on some tables and on the same with other words, holds of
-- every call
module _ (P : Call → Record → Tables → List ℕ → Outcome → Outcome → Type 0)
    (of_checks :
    (c : Call) (m : Record) (t : Tables) (words : List ℕ) (rest : List Check) (o o' : Outcome) →
    numbered rest ≡ true → o.answer.refusal ≡ 0 → P c m t words (shape_first m t rest o) (shape_first m (other_words t words) rest o'))
    (of_boot :
    (base : Frame) (frames block_order : ℕ) (text : List ℕ) (m : Record) (t : Tables) (words : List ℕ) →
    let c = Call.Boot base frames block_order in
    P c m t words (perform c text m t) (perform c text m (other_words t words))) where
  pub each_twice :
      (c : Call) (bytes : List ℕ) (m : Record) (t : Tables) (words : List ℕ) →
      P c m t words (perform c bytes m t) (perform c bytes m (other_words t words))
  unfolding Page.put_page Page.drop_page Page.change_kind Page.store_page Page.read_page page_at put_at free_ordinary free_in_area Device.grant Device.release Device.device_store Device.device_read chosen is_grantable is_candidate movers is_target targets later_frames Declare.declare is_vacant fits_at highest_fit Report.report Report.report_of Report.used_of Report.max_chunk
  each_twice (Call.PutMovable name) bytes m t words = of_checks _ m t words _ _ _ refl refl
  each_twice (Call.PutFixed name) bytes m t words = of_checks _ m t words _ _ _ refl refl
  each_twice (Call.Drop name) bytes m t words = of_checks _ m t words _ _ _ refl refl
  each_twice (Call.Pin name) bytes m t words = of_checks _ m t words _ _ _ refl refl
  each_twice (Call.Unpin name) bytes m t words = of_checks _ m t words _ _ _ refl refl
  each_twice (Call.Store name word) bytes m t words = of_checks _ m t words _ _ _ refl refl
  each_twice (Call.Read name) bytes m t words = of_checks _ m t words _ _ _ refl refl
  each_twice (Call.Grant area count align_order device) bytes m t words = of_checks _ m t words _ _ _ refl refl
  each_twice (Call.Release area f count device) bytes m t words = of_checks _ m t words _ _ _ refl refl
  each_twice (Call.DeviceStore f word device) bytes m t words = of_checks _ m t words _ _ _ refl refl
  each_twice (Call.DeviceRead f device) bytes m t words = of_checks _ m t words _ _ _ refl refl
  each_twice (Call.Declare request) bytes m t words = of_checks _ m t words _ _ _ refl refl
  each_twice (Call.Boot base frames block_order) text m t words = of_boot base frames block_order text m t words
  each_twice Call.Report bytes m t words = of_checks _ m t words _ _ _ refl refl

-- and so, of one run alone
module _ (P : Call → Record → Tables → Outcome → Type 0)
    (of_checks :
    (c : Call) (m : Record) (t : Tables) (cs : List Check) (o : Outcome) →
    numbered cs ≡ true → o.answer.refusal ≡ 0 → P c m t (checked m t cs o))
    (of_boot :
    (base : Frame) (frames block_order : ℕ) (text : List ℕ) (m : Record) (t : Tables) →
    let c = Call.Boot base frames block_order in
    P c m t (perform c text m t)) where
  pub each_call : (c : Call) (bytes : List ℕ) (m : Record) (t : Tables) → P c m t (perform c bytes m t)
  each_call c bytes m t =
      each_twice (λ c m t _ o _. P c m t o) (λ c m t _ rest o _ nums done. of_checks c m t (shape_wrong m t ⇒ 1 ∷ rest) o nums done)
      (λ base frames block_order text m t _. of_boot base frames block_order text m t) c bytes m t t.words
