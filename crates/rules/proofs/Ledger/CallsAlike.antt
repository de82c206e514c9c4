-- One call in two runs, on tables that differ only in the words of chosen pages. Every check and every choice reads marks, bits, owners and lengths
-- alone, so it is the same in both. Assumes nothing.
--     refused_alike   a call that is refused has the same answer on the same tables with other words, of the same number
--     SeenAlike       the same record, the same answer but for hidden words, and tables that still differ in no more
--     own_alike       each call but boot leaves this so
use Rattle.std.proofs.Common.{◌≡◌, ℕ, zero, suc, ◌-◌, Bool, true, false, not, ◌&&◌, eqb, List, [], ◌∷◌, length, set, sym, refl, ap, ◌∙◌, subst, arith}
use lib.ListN.{length-replicate}
use borrow.Author.Tests.{not-false}
use Rattle.std.specs.Prelude.{if◌then◌else◌}
use Rattle.search.proofs.Bools.{by_cases, clash}
use Rattle.answer.specs.declared.Answer.{Answer}
use Rattle.answer.specs.Answers.{done, refused}
use Rattle.frames.specs.declared.Frame.{Frame}
use Rattle.frames.specs.Units.{place}
use Rattle.frames.specs.Marks.{field_of, mark_of, has_kind, is_page_of, is_granted, movable}
use Rattle.frames.specs.Tables.{Tables, mark_at, word_at, set_page, fill, fill_pages, with_bitmap, with_owners}
use Rattle.text.specs.Reading.{Read, gives, refuses}
use Rattle.rules.specs.declared.Call.{Call}
use Rattle.rules.specs.declared.Request.{Request}
use Rattle.rules.specs.declared.Record.{Record}
use Rattle.rules.specs.Record.{place_of, frame_at}
use Rattle.rules.specs.Declare.{is_vacant, fits_at, highest_fit}
use Rattle.rules.specs.Shape.{shape_wrong}
use Rattle.rules.specs.Outcomes.{Outcome, outcome, Check, ◌⇒◌, refuse, checked, Passed}
use Rattle.rules.specs.PageCalls.{page_at, is_live, free_ordinary, free_in_area, put_at}
use Rattle.rules.specs.PageCalls as Page
use Rattle.rules.specs.Targets.{is_target, targets, first_target}
use Rattle.rules.specs.DeviceCalls.{place_of_bit, is_candidate, is_grantable, chosen, movers, move_page, move_out, mark_run, take_run, later_frames, free_run}
use Rattle.rules.specs.DeviceCalls as Device
use Rattle.rules.specs.Declare as Declare
use Rattle.rules.specs.Boot.{zero_tables, boot_record, booted}
use Rattle.rules.specs.Boot as Boot
use Rattle.rules.specs.Report.{used_of, max_chunk, report_of, report}
use Rattle.rules.specs.Calls.{perform}
use Rattle.rules.specs.Ledger.Roles.{role_of}
use Rattle.rules.specs.Ledger.Lists.{is_refused, SameCall, same, other_word, other_buffer, without_word, seen_answer}
use Rattle.rules.proofs.Ledger.Marks.{page_of, page_field, page_named, mark_kind, mark_field, granted_page}
use Rattle.rules.proofs.Targets.{first_same}
use Rattle.rules.proofs.EachCall.{other_words, shape_first, each_twice}
use Rattle.rules.proofs.ShapeFacts.{shape_lengths}
use Rattle.rules.proofs.Promises.Boots.{record_lengths}
use Rattle.rules.proofs.Promises.Unchanged.{bytes_beside}
use Rattle.rules.proofs.Ledger.Names.{live_here}
use Rattle.rules.proofs.Ledger.OtherWords.{is_hidden, SameWords, Alike, alike_words, to_alike, set_alike, fill_alike, others_alike}

-- a word that is hidden is not seen
seen_word : (hidden : Bool) → hidden ≡ true → (a : Answer) → (if hidden then without_word a else a) ≡ without_word a
seen_word hidden e a = rw e

-- what two runs see of one call
pub record SeenAlike (hides : ℕ → Bool) (c c' : Call) (o o' : Outcome) : Type 0 where
  pub machine : o'.machine ≡ o.machine
  pub answer : seen_answer hides c o.answer ≡ seen_answer hides c' o'.answer
  pub left : Alike hides o.left o'.left

-- the shape is the same in both, and all other checks are
checked_alike :
    (P : Outcome → Outcome → Type 0) (m : Record) (t t' : Tables) (wrong wrong' : Bool) (rest : List Check) (o o' : Outcome) →
    ((number : ℕ) → P (refuse m t number) (refuse m t' number)) →
    wrong ≡ wrong' →
    (Passed rest → P o o') → P (checked m t (wrong ⇒ 1 ∷ rest) o) (checked m t' (wrong' ⇒ 1 ∷ rest) o')
unfolding checked
checked_alike P m t t' wrong wrong' rest o o' refusal e passed =
    by_cases wrong (λ y. rw (sym e ∙ y, y) (refusal 1)) (λ n. rw (sym e ∙ n, n) (go rest passed))
  where
    go : (cs : List Check) → (Passed cs → P o o') → P (checked m t cs o) (checked m t' cs o')
    go [] p = p tt
    go (k ∷ ks) p = by_cases k.holds (λ y. rw y (refusal k.number)) (λ n. rw n (go ks (λ q. p (n, q))))

-- ---- a call that is refused

same_shape : (m : Record) (t : Tables) (words : List ℕ) → length words ≡ length t.words → shape_wrong m t ≡ shape_wrong m (other_words t words)
same_shape m t words e = ap not (sym (shape_lengths m t (other_words t words) (record { marks = refl; words = e; bitmap = refl; owners = refl })))

-- what is refused in one run has the same answer in the other
abbrev pub RefusedAlike : Outcome → Outcome → Type 0
RefusedAlike o o' = is_refused o ≡ true → o'.answer ≡ o.answer

module _ (m : Record) (t : Tables) (words : List ℕ) (same_length : length words ≡ length t.words) where
  checks_refused :
      (rest : List Check) (o o' : Outcome) →
      o.answer.refusal ≡ 0 → RefusedAlike (shape_first m t rest o) (shape_first m (other_words t words) rest o')
  checks_refused rest o o' accepted =
      checked_alike RefusedAlike m t (other_words t words) _ _ rest o o' (λ n e. refl) (same_shape m t words same_length)
      (λ _ e. clash (is_refused o) e (ap (λ (n : ℕ). not (eqb n 0)) accepted))

  booted_refused : (r : Read Record) → RefusedAlike (booted m t r) (booted m (other_words t words) r)
  booted_refused (gives new at) e = refl
  booted_refused (refuses number at) e = refl

  boot_refused :
      (base frames block_order : ℕ) (text : List ℕ) →
      RefusedAlike (Boot.boot m base frames block_order text t) (Boot.boot m base frames block_order text (other_words t words))
  unfolding Boot.boot
  boot_refused base frames block_order text =
      rw (record_lengths t (other_words t words) (record { marks = refl; words = same_length; bitmap = refl; owners = refl }) base frames block_order text)
      (booted_refused (boot_record base frames block_order text t))

call_refused :
    (c : Call) (bytes : List ℕ) (m : Record) (t : Tables) (words : List ℕ) →
    length words ≡ length t.words → RefusedAlike (perform c bytes m t) (perform c bytes m (other_words t words))
call_refused =
    each_twice (λ c m t words o o'. length words ≡ length t.words → RefusedAlike o o')
    (λ c m t words rest o o' nums accepted same_length. checks_refused m t words same_length rest o o' accepted)
    (λ base frames block_order text m t words same_length. boot_refused m t words same_length base.0 frames block_order text)

-- the words that would have been stored, and the bytes of a report's buffer, may differ
pub refused_alike :
    (m : Record) (t : Tables) (words : List ℕ) →
    length words ≡ length t.words →
    {hides : ℕ → Bool} {c d : Call} {bytes bytes' : List ℕ} →
    SameCall hides c bytes d bytes' → RefusedAlike (perform c bytes m t) (perform d bytes' m (other_words t words))
unfolding Page.store_page page_at
refused_alike m t words e (same c bytes) = call_refused c bytes m t words e
refused_alike m t words e (other_word name word word' bytes chosen) = checks_refused m t words e _ _ _ refl
refused_alike m t words e (other_buffer bytes bytes' k) =
    rw (bytes_beside.length_alone bytes' bytes m (other_words t words) k) (call_refused Call.Report bytes m t words e)

-- ---- a call on the runs' own tables

module _ (hides : ℕ → Bool) (m : Record) (t : Tables) (words : List ℕ) (s : SameWords hides t words) where
  abbrev t' : Tables
  t' = other_words t words

  -- a refusal, and any other answer that gives the tables back
  unchanged : (c c' : Call) (a a' : Answer) → seen_answer hides c a ≡ seen_answer hides c' a' → SeenAlike hides c c' (outcome m a t) (outcome m a' t')
  unchanged c c' a a' e = record { machine = refl; answer = e; left = to_alike hides t words s }

  -- a call that sets one frame
  one_frame :
      (c c' : Call) (a : Answer) (p mark word word' : ℕ) →
      seen_answer hides c a ≡ seen_answer hides c' a →
      (is_hidden hides mark ≡ false → word' ≡ word) →
      SeenAlike hides c c' (outcome m a (set_page t (place p) mark word)) (outcome m a (set_page t' (place p) mark word'))
  one_frame c c' a p mark word word' e w =
      record {
        machine = refl;
        answer = e;
        left = to_alike hides (set_page t (place p) mark word) (set words p word') (set_alike hides t words p mark word word' s w);
      }

  -- a page of a name is hidden just where the name is chosen
  page_hidden : (name mark : ℕ) → is_page_of name mark ≡ true → is_hidden hides mark ≡ hides name
  page_hidden name mark e = ap (λ (b : Bool). b && hides (field_of mark)) (page_of name mark e) ∙ ap hides (page_field name mark e)

  hidden_is : (name : ℕ) → is_live m t name ≡ true → is_hidden hides (mark_at t (page_at m t name)) ≡ hides name
  hidden_is name live = page_hidden name (mark_at t (page_at m t name)) (live_here m t name live)

  -- where the refusals are seen the same, it is left to look at the call that passes its checks
  checks_alike :
      (c c' : Call) →
      ((number : ℕ) → seen_answer hides c (refused number) ≡ seen_answer hides c' (refused number)) →
      (rest : List Check) (o o' : Outcome) →
      (Passed rest → SeenAlike hides c c' o o') →
      SeenAlike hides c c' (shape_first m t rest o) (shape_first m t' rest o')
  checks_alike c c' e rest o o' passed =
      checked_alike (SeenAlike hides c c') m t t' _ _ rest o o' (λ number. unchanged c c' (refused number) (refused number) (e number))
      (same_shape m t words s.lengths) passed

  put_alike : (c : Call) (kind name : ℕ) → SeenAlike hides c c (Page.put_page kind m name t) (Page.put_page kind m name t')
  unfolding Page.put_page page_at put_at free_ordinary free_in_area
  put_alike c kind name =
      checks_alike c c (λ _. refl) _ _ _
      (λ passed. one_frame c c _ (put_at kind m t).0 (mark_of name kind) 0 0 refl (λ _. refl))

  drop_alike : (name : ℕ) → SeenAlike hides (Call.Drop name) (Call.Drop name) (Page.drop_page m name t) (Page.drop_page m name t')
  unfolding Page.drop_page page_at
  drop_alike name =
      checks_alike (Call.Drop name) (Call.Drop name) (λ _. refl) _ _ _
      (λ passed. one_frame (Call.Drop name) (Call.Drop name) (done 0 0) (page_at m t name).0 0 0 0 refl (λ _. refl))

  kind_alike :
      (c : Call) (from to name : ℕ) →
      is_page_of name (mark_of name to) ≡ true → SeenAlike hides c c (Page.change_kind from to m name t) (Page.change_kind from to m name t')
  unfolding Page.change_kind page_at
  kind_alike c from to name page =
      checks_alike c c (λ _. refl) _ _ _
      (λ passed.
      let live : is_live m t name ≡ true = not-false (is_live m t name) passed.1.0 in
      one_frame c c (done 0 0) (page_at m t name).0 (mark_of name to) (word_at t (page_at m t name)) (word_at t' (page_at m t name)) refl
      (λ h. s.same (page_at m t name).0 (hidden_is name live ∙ sym (page_hidden name (mark_of name to) page) ∙ h)))

  -- the words that are stored may differ where the name is chosen
  store_alike :
      (name word word' : ℕ) →
      (hides name ≡ false → word' ≡ word) →
      SeenAlike hides (Call.Store name word) (Call.Store name word') (Page.store_page m name word t) (Page.store_page m name word' t')
  unfolding Page.store_page page_at
  store_alike name word word' e =
      checks_alike (Call.Store name word) (Call.Store name word') (λ _. refl) _ _ _
      (λ passed.
      let live : is_live m t name ≡ true = not-false (is_live m t name) passed.1.0 in
      one_frame (Call.Store name word) (Call.Store name word') (done 0 0) (page_at m t name).0 (mark_at t (page_at m t name)) word word' refl
      (λ h. e (sym (hidden_is name live) ∙ h)))

  read_alike : (name : ℕ) → SeenAlike hides (Call.Read name) (Call.Read name) (Page.read_page m name t) (Page.read_page m name t')
  unfolding Page.read_page page_at
  read_alike name =
      checks_alike (Call.Read name) (Call.Read name) (λ _. refl) _ _ _
      (λ passed.
      let live : is_live m t name ≡ true = not-false (is_live m t name) passed.1.0 in
      let p = page_at m t name in
      let first = (frame_at m p).0 in
      unchanged (Call.Read name) (Call.Read name) (done first (word_at t p)) (done first (word_at t' p))
      (by_cases (hides name) (λ y. seen_word (hides name) y (done first (word_at t p)) ∙ sym (seen_word (hides name) y (done first (word_at t' p))))
      (λ n. ap (λ (x : ℕ). seen_answer hides (Call.Read name) (done first x)) (sym (s.same p.0 (hidden_is name live ∙ n))))))

  device_store_alike :
      (f : Frame) (word device : ℕ) →
      let c = Call.DeviceStore f word device in
      SeenAlike hides c c (Device.device_store m f word device t) (Device.device_store m f word device t')
  unfolding Device.device_store
  device_store_alike f word device =
      let c = Call.DeviceStore f word device in
      checks_alike c c (λ _. refl) _ _ _
      (λ passed.
      one_frame c c (done 0 0) (place_of m f).0 (mark_at t (place_of m f)) word word refl (λ _. refl))

  device_read_alike :
      (f : Frame) (device : ℕ) →
      let c = Call.DeviceRead f device in
      SeenAlike hides c c (Device.device_read m f device t) (Device.device_read m f device t')
  unfolding Device.device_read
  device_read_alike f device =
      let c = Call.DeviceRead f device in
      checks_alike c c (λ _. refl) _ _ _
      (λ passed.
      let mark = mark_at t (place_of m f) in
      let granted : is_granted mark ≡ true = not-false (is_granted mark) passed.1.0 in
      unchanged c c (done (word_at t (place_of m f)) 0) (done (word_at t' (place_of m f)) 0)
      (ap (λ (x : ℕ). done x 0) (sym (s.same (place_of m f).0 (ap (λ (b : Bool). b && hides (field_of mark)) (granted_page mark granted))))))

  release_alike :
      (i : ℕ) (f : Frame) (count device : ℕ) →
      let c = Call.Release i f count device in
      SeenAlike hides c c (Device.release m i f count device t) (Device.release m i f count device t')
  unfolding Device.release later_frames free_run
  release_alike i f count device =
      let c = Call.Release i f count device in
      checks_alike c c (λ _. refl) _ _ _
      (λ passed.
      record {
        machine = refl;
        answer = refl;
        left =
            to_alike hides (free_run m t i f count) (fill words (place_of m f).0 count 0)
            (others_alike hides (fill_pages t (place_of m f) count 0 0) (fill words (place_of m f).0 count 0) (free_run m t i f count).bitmap (free_run m t i f count).owners
            (fill_alike hides count t words (place_of m f).0 0 0 s));
      })

  declare_alike : (r : Request) → SeenAlike hides (Call.Declare r) (Call.Declare r) (Declare.declare m r t) (Declare.declare m r t')
  unfolding Declare.declare is_vacant free_ordinary fits_at highest_fit
  declare_alike r =
      checks_alike (Call.Declare r) (Call.Declare r) (λ _. refl) _ _ _
      (λ passed. record { machine = refl; answer = refl; left = to_alike hides _ words (others_alike hides t words _ t.owners s) })

  move_alike : (i p : ℕ) → Alike hides (move_page m t i (place p)) (move_page m t' i (place p))
  unfolding move_page
  move_alike i p =
      by_cases (has_kind movable (mark_at t (place p)))
      (λ y.
      let q = (first_target m t i).0 in
      let mark = mark_at t (place p) in
      let word = word_at t (place p) in
      let word' = word_at t' (place p) in
      rw (y, first_same m i t t' refl)
      (to_alike hides (set_page (set_page t (place q) mark word) (place p) 0 0) (set (set words q word') p 0)
      (set_alike hides (set_page t (place q) mark word) (set words q word') p 0 0 0 (set_alike hides t words q mark word word' s (s.same p)) (λ _. refl))))
      (λ n. rw n (to_alike hides t words s))

move_out_alike : (hides : ℕ → Bool) (m : Record) (i d p : ℕ) (t t' : Tables) → Alike hides t t' → Alike hides (move_out m t i (place p) d) (move_out m t' i (place p) d)
unfolding move_out
move_out_alike hides m i zero p t t' a = a
move_out_alike hides m i (suc d) p t t' a =
    alike_words hides t t' (λ x. Alike hides (move_out m (move_page m t i (place p)) i (place (suc p)) d) (move_out m (move_page m x i (place p)) i (place (suc p)) d)) a
    (λ words s. move_out_alike hides m i d (suc p) (move_page m t i (place p)) (move_page m (other_words t words) i (place p)) (move_alike hides m t words s i p))

-- a run that is marked, beside some bitmap and owners
abbrev marked_with : Tables → ℕ → ℕ → List ℕ → List ℕ → Tables
marked_with t p count bitmap owners = with_owners (with_bitmap (mark_run t (place p) count) bitmap) owners

mark_run_alike :
    (hides : ℕ → Bool) (p count : ℕ) (t t' : Tables) (bitmap owners : List ℕ) →
    Alike hides t t' → Alike hides (marked_with t p count bitmap owners) (marked_with t' p count bitmap owners)
mark_run_alike hides p count t t' bitmap owners a =
    alike_words hides t t' (λ x. Alike hides (marked_with t p count bitmap owners) (marked_with x p count bitmap owners)) a
    (λ words s.
    let head = mark_of count 4 in
    let first = set_page t (place p) head 0 in
    to_alike hides (marked_with t p count bitmap owners) (fill (set words p 0) (suc p) (count - 1) 0)
    (others_alike hides (mark_run t (place p) count) (fill (set words p 0) (suc p) (count - 1) 0) bitmap owners
    (fill_alike hides (count - 1) first (set words p 0) (suc p) (mark_of 0 5) 0 (set_alike hides t words p head 0 0 s (λ _. refl)))))

pub zero_alike : (hides : ℕ → Bool) (t : Tables) → length t.marks ≡ length t.words → SameWords hides (zero_tables t) (zero_tables t).words
zero_alike hides t square =
    record {
      square = length-replicate (length t.marks) 0 ∙ square ∙ sym (length-replicate (length t.words) 0);
      lengths = refl;
      same = λ q h. refl;
    }

module _ (hides : ℕ → Bool) (m : Record) (t : Tables) (words : List ℕ) (s : SameWords hides t words) where
  grant_alike :
      (i count align_order device : ℕ) →
      let c = Call.Grant i count align_order device in
      SeenAlike hides c c (Device.grant m i count align_order device t) (Device.grant m i count align_order device (other_words t words))
  unfolding Device.grant chosen is_grantable is_candidate movers targets is_target take_run
  grant_alike i count align_order device =
      let c = Call.Grant i count align_order device in
      let p = (place_of_bit m i (chosen m t i count align_order)).0 in
      checks_alike hides m t words s c c (λ _. refl) _ _ _
      (λ passed.
      record {
        machine = refl;
        answer = refl;
        left =
            mark_run_alike hides p count (move_out m t i (place p) count) (move_out m (other_words t words) i (place p) count) _ _
            (move_out_alike hides m i count p t (other_words t words) (to_alike hides t words s));
      })

  report_alike : (bytes : List ℕ) → SeenAlike hides Call.Report Call.Report (report m bytes t) (report m bytes (other_words t words))
  unfolding report report_of used_of max_chunk
  report_alike bytes =
      checks_alike hides m t words s Call.Report Call.Report (λ _. refl) _ _ _
      (λ passed. unchanged hides m t words s Call.Report Call.Report (done (length (report_of m t)) 0) (done (length (report_of m t)) 0) refl)

  same_alike : (c : Call) (bytes : List ℕ) → (role_of c).is_boot ≡ false → SeenAlike hides c c (perform c bytes m t) (perform c bytes m (other_words t words))
  same_alike (Call.PutMovable name) bytes e = put_alike hides m t words s (Call.PutMovable name) 1 name
  same_alike (Call.PutFixed name) bytes e = put_alike hides m t words s (Call.PutFixed name) 3 name
  same_alike (Call.Drop name) bytes e = drop_alike hides m t words s name
  same_alike (Call.Pin name) bytes e = kind_alike hides m t words s (Call.Pin name) 1 2 name (page_named name (mark_of name 2) (rw (mark_kind name 2 (omega arith))) (mark_field name 2 (omega arith)))
  same_alike (Call.Unpin name) bytes e = kind_alike hides m t words s (Call.Unpin name) 2 1 name (page_named name (mark_of name 1) (rw (mark_kind name 1 (omega arith))) (mark_field name 1 (omega arith)))
  same_alike (Call.Store name word) bytes e = store_alike hides m t words s name word word (λ _. refl)
  same_alike (Call.Read name) bytes e = read_alike hides m t words s name
  same_alike (Call.Grant area count align_order device) bytes e = grant_alike area count align_order device
  same_alike (Call.Release area f count device) bytes e = release_alike hides m t words s area f count device
  same_alike (Call.DeviceStore f word device) bytes e = device_store_alike hides m t words s f word device
  same_alike (Call.DeviceRead f device) bytes e = device_read_alike hides m t words s f device
  same_alike (Call.Declare request) bytes e = declare_alike hides m t words s request
  same_alike (Call.Boot base frames block_order) bytes e = clash true refl e
  same_alike Call.Report bytes e = report_alike bytes

call_alike :
    (hides : ℕ → Bool) (m : Record) (t : Tables) (words : List ℕ) (s : SameWords hides t words) {c d : Call} {bytes bytes' : List ℕ} →
    SameCall hides c bytes d bytes' →
    (role_of c).is_boot ≡ false → SeenAlike hides c d (perform c bytes m t) (perform d bytes' m (other_words t words))
call_alike hides m t words s (same c bytes) b = same_alike hides m t words s c bytes b
call_alike hides m t words s (other_word name word word' bytes e) b = store_alike hides m t words s name word word' (λ n. clash (hides name) e n)
call_alike hides m t words s (other_buffer bytes bytes' e) b =
    rw (bytes_beside.length_alone bytes' bytes m (other_words t words) e) (report_alike hides m t words s bytes)

pub own_alike :
    (hides : ℕ → Bool) (m m' : Record) (t t' : Tables) {c d : Call} {bytes bytes' : List ℕ} →
    SameCall hides c bytes d bytes' →
    (role_of c).is_boot ≡ false → m' ≡ m → Alike hides t t' → SeenAlike hides c d (perform c bytes m t) (perform d bytes' m' t')
own_alike hides m m' t t' {c} {d} {bytes} {bytes'} call b e a =
    subst (λ (x : Record). SeenAlike hides c d (perform c bytes m t) (perform d bytes' x t')) (sym e)
    (alike_words hides t t' (λ x. SeenAlike hides c d (perform c bytes m t) (perform d bytes' m x)) a (λ words s. call_alike hides m t words s call b))
