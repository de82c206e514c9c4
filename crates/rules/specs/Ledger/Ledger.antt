-- Document 01, "The ledger of demand 3": what the ledger holds, and the changes made in it. Which call makes which is in Roles.antt.
use Rattle.std.specs.Prelude.{ℕ, ◌+◌, Bool, false, ◌&&◌, ◌||◌, List, [], ◌∷◌, ◌==◌, nat_le, nat_lt, if◌then◌else◌}
use Rattle.frames.specs.declared.Frame.{Frame}
use Rattle.frames.specs.Units.{frame}

-- a live grant: its first physical frame and its count
pub record Grant : Type 0 where
  pub first : Frame
  pub count : ℕ

abbrev pub grant_of : Frame → ℕ → Grant
grant_of f count = record { first = f; count = count }

-- the frame is one of the grant's
abbrev pub takes : Grant → Frame → Bool
takes g f = nat_le g.first.0 f.0 && nat_lt f.0 (g.first.0 + g.count)

abbrev pub same_grant : Grant → Grant → Bool
same_grant g h = g.first.0 == h.first.0 && g.count == h.count

-- how many grants of a list have the frame; one of them is this grant; the list without this grant
unfoldable pub grants_at : List Grant → Frame → ℕ
grants_at [] f = 0
grants_at (g ∷ gs) f = (if takes g f then 1 else 0) + grants_at gs f

unfoldable pub is_among : List Grant → Grant → Bool
is_among [] g = false
is_among (h ∷ hs) g = same_grant h g || is_among hs g

unfoldable pub without : List Grant → Grant → List Grant
without [] g = []
without (h ∷ hs) g = if same_grant h g then hs else h ∷ without hs g

-- what is live, pinned, last stored, granted and released, and to which device a frame was granted last (document 02, request (vii)). Pages go by
-- name, the words and devices of granted frames by physical frame
pub record Ledger : Type 0 where
  pub live : ℕ → Bool
  pub pinned : ℕ → Bool
  pub word : ℕ → ℕ
  pub grants : List Grant
  pub device_word : ℕ → ℕ
  pub device : ℕ → ℕ
  pub granted : ℕ
  pub released : ℕ

-- nothing live, every word 0, both totals 0
abbrev pub empty_ledger : Ledger
empty_ledger =
    record {
      live = λ _. false;
      pinned = λ _. false;
      word = λ _. 0;
      grants = [];
      device_word = λ _. 0;
      device = λ _. 0;
      granted = 0;
      released = 0;
    }

-- f with another value at k
unfoldable pub update : {A : Type 0} → (ℕ → A) → ℕ → A → ℕ → A
update f k v x = if x == k then v else f x

-- a page's three entries
abbrev pub with_page : Ledger → ℕ → Bool → Bool → ℕ → Ledger
with_page l name live pinned word =
    record {
      live = update l.live name live;
      pinned = update l.pinned name pinned;
      word = update l.word name word;
      grants = l.grants;
      device_word = l.device_word;
      device = l.device;
      granted = l.granted;
      released = l.released;
    }

abbrev pub with_grants : Ledger → List Grant → (ℕ → ℕ) → (ℕ → ℕ) → ℕ → ℕ → Ledger
with_grants l grants device_word device granted released =
    record {
      live = l.live;
      pinned = l.pinned;
      word = l.word;
      grants = grants;
      device_word = device_word;
      device = device;
      granted = granted;
      released = released;
    }

-- f with another value at the frames of a grant
abbrev pub at_frames : Grant → ℕ → (ℕ → ℕ) → ℕ → ℕ
at_frames g v f x = if takes g (frame x) then v else f x

-- a live grant more, its frames' words 0, and they are the device's; the total granted rises by its count
abbrev pub with_grant : Ledger → Grant → ℕ → Ledger
with_grant l g device =
    with_grants l (g ∷ l.grants) (at_frames g 0 l.device_word) (at_frames g device l.device) (l.granted + g.count) l.released

-- the live grant ends; the total released rises by its count
abbrev pub end_grant : Ledger → Grant → Ledger
end_grant l g = with_grants l (without l.grants g) l.device_word l.device l.granted (l.released + g.count)

abbrev pub with_device_word : Ledger → Frame → ℕ → Ledger
with_device_word l f word = with_grants l l.grants (update l.device_word f.0 word) l.device l.granted l.released
