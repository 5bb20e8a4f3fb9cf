-- A value in which there are values alone owns nothing: its words are copied and ended as they are. It is one in which there is neither an owner nor a pointer.
use Rattle.std.proofs.Common.{◌≡◌, ⊎_elim, ℕ, zero, suc, ◌+◌, ◌<◌, true, false, List, [], ◌++◌, refl, ap, ◌∙◌, arith}
use Rattle.std.specs.Prelude.{drop, take}
use Rattle.life_store.specs.Content.{Content}
use Rattle.life_store.specs.Effects.{Got, Setting, then_get}
use Rattle.life_store.specs.Kinds.{Owner, Pointing, is_value, kind_in}
use Rattle.life_store.specs.Owners.{copied, ended}
use Rattle.life_store.specs.Parts.{Parts, Single, Raw, Iterates, Views, Text, Vector, Unique, Member, NoMember, width}
use Rattle.life_forest.specs.Values.{owned_of}
use Rattle.life_forest.proofs.Begins.{behind, in_front, row_cases}
use Rattle.life_cover.specs.Buffered.{HasBuffers, is_buffer_at}
use Rattle.life_cover.proofs.BufferWords.{bufferless}

-- ---- words of values alone

abbrev pub AreSingle : Parts → Type 0
AreSingle Single = Unit {0}
AreSingle NoMember = Unit {0}
AreSingle (Member first others) = AreSingle first × AreSingle others
AreSingle _ = ⊥

single_none : (p : Parts) → AreSingle p → (u : ℕ) → is_buffer_at p u ≡ false
single_none Single is u = refl
single_none NoMember is u = refl
single_none (Member first others) is u =
    ⊎_elim (λ h. h.1 ∙ single_none first is.0 u) (λ h. h.2 ∙ single_none others is.1 h.0) (row_cases (width first) (is_buffer_at first) (is_buffer_at others) u)
single_none Raw is u = absurd is
single_none Iterates is u = absurd is
single_none Views is u = absurd is
single_none (Text id) is u = absurd is
single_none (Vector id element) is u = absurd is
single_none (Unique id target) is u = absurd is

pub single_has : (p : Parts) → AreSingle p → (ws : List ℕ) → HasBuffers p ws
single_has p is ws = bufferless p (single_none p is) ws

pub single_copied : (s : Setting) (p : Parts) → AreSingle p → (ws : List ℕ) (d : Content) → (vs : List ℕ) × (copied s p ws d ≡ Got (vs, d))
single_copied s Single is ws d = (ws, refl)
single_copied s NoMember is ws d = ([], refl)
single_copied s (Member first others) is ws d =
    let one = single_copied s first is.0 (take (width first) ws) d in
    let two = single_copied s others is.1 (drop (width first) ws) d in (
      one.0 ++ two.0,
      ap (λ x. then_get x (λ a. then_get (copied s others (drop (width first) ws) a.1) (λ b. Got (a.0 ++ b.0, b.1)))) one.1 ∙ ap (λ x. then_get x (λ b. Got (one.0 ++ b.0, b.1))) two.1,
    )
single_copied s Raw is ws d = absurd is
single_copied s Iterates is ws d = absurd is
single_copied s Views is ws d = absurd is
single_copied s (Text id) is ws d = absurd is
single_copied s (Vector id element) is ws d = absurd is
single_copied s (Unique id target) is ws d = absurd is

pub single_ended : (p : Parts) → AreSingle p → (ws : List ℕ) (d : Content) → ended p ws d ≡ d
single_ended Single is ws d = refl
single_ended NoMember is ws d = refl
single_ended (Member first others) is ws d = single_ended others is.1 (drop (width first) ws) (ended first (take (width first) ws) d) ∙ single_ended first is.0 (take (width first) ws) d
single_ended Raw is ws d = absurd is
single_ended Iterates is ws d = absurd is
single_ended Views is ws d = absurd is
single_ended (Text id) is ws d = absurd is
single_ended (Vector id element) is ws d = absurd is
single_ended (Unique id target) is ws d = absurd is

pub single_owns : (p : Parts) → AreSingle p → (ws : List ℕ) → owned_of p ws ≡ []
single_owns Single is ws = refl
single_owns NoMember is ws = refl
single_owns (Member first others) is ws =
    ap (λ (ns : List ℕ). ns ++ owned_of others (drop (width first) ws)) (single_owns first is.0 (take (width first) ws)) ∙ single_owns others is.1 (drop (width first) ws)
single_owns Raw is ws = absurd is
single_owns Iterates is ws = absurd is
single_owns Views is ws = absurd is
single_owns (Text id) is ws = absurd is
single_owns (Vector id element) is ws = absurd is
single_owns (Unique id target) is ws = absurd is

pub single_kinds : (p : Parts) → AreSingle p → (u : ℕ) → u < width p → is_value (kind_in p u) ≡ true
single_kinds Single is zero lt = refl
single_kinds Single is (suc u) lt = absurd (omega (arith, lt))
single_kinds NoMember is u lt = absurd (omega (arith, lt))
single_kinds (Member first others) is u lt =
    ⊎_elim
    (λ h. ap is_value h.1 ∙ single_kinds first is.0 u h.0)
    (λ h. let k = h.1 in ap is_value h.2 ∙ single_kinds others is.1 h.0 (omega (arith, lt, k)))
    (row_cases (width first) (kind_in first) (kind_in others) u)
single_kinds Raw is u lt = absurd is
single_kinds Iterates is u lt = absurd is
single_kinds Views is u lt = absurd is
single_kinds (Text id) is u lt = absurd is
single_kinds (Vector id element) is u lt = absurd is
single_kinds (Unique id target) is u lt = absurd is

-- ---- what holds neither an owner nor a pointer has them alone

pub plain_single : (p : Parts) → ((u : ℕ) → u < width p → kind_in p u ≡ Owner → ⊥) → ((u j : ℕ) → u < width p → kind_in p u ≡ Pointing j → ⊥) → AreSingle p
plain_single Single owned pointing = tt
plain_single NoMember owned pointing = tt
plain_single Raw owned pointing = pointing 0 0 (omega arith) refl
plain_single Iterates owned pointing = pointing 0 0 (omega arith) refl
plain_single Views owned pointing = pointing 0 0 (omega arith) refl
plain_single (Text id) owned pointing = owned 0 (omega arith) refl
plain_single (Vector id element) owned pointing = owned 0 (omega arith) refl
plain_single (Unique id target) owned pointing = owned 0 (omega arith) refl
plain_single (Member first others) owned pointing = (
  plain_single first (λ u lt e. owned u (omega (arith, lt)) (first_is u lt ∙ e)) (λ u j lt e. pointing u j (omega (arith, lt)) (first_is u lt ∙ e)),
  plain_single others (λ u lt e. owned (width first + u) (omega (arith, lt)) (other_is u ∙ e)) (λ u j lt e. pointing (width first + u) j (omega (arith, lt)) (other_is u ∙ e)),
)
  where
    first_is : (u : ℕ) → u < width first → kind_in (Member first others) u ≡ kind_in first u
    first_is u lt = in_front (width first) (kind_in first) (kind_in others) u lt

    other_is : (u : ℕ) → kind_in (Member first others) (width first + u) ≡ kind_in others u
    other_is u = behind (width first) (kind_in first) (kind_in others) u (width first + u) refl
