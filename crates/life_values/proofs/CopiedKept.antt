-- A copy leaves all that was there, and has as many words.
use Rattle.std.proofs.Common.{◌≡◌, ℕ, ◌+◌, ◌≤◌, ◌<◌, List, [], ◌∷◌, ◌++◌, length, Option, Some, None, refl, sym, ap, subst, ◌∙◌, arith, length-append}
use Rattle.std.specs.Prelude.{drop, slice_index, take}
use Rattle.life_types.specs.declared.ty.TyId.{TyId}
use Rattle.life_store.specs.Cells.{at, at-set_same, at-set_other}
use Rattle.life_store.specs.Content.{Slot, Object, Content, newborn, resized, with_birth, with_resize}
use Rattle.life_store.specs.Effects.{Setting, Attempt, Got, then_get}
use Rattle.life_store.specs.Held.{filled, filled_if, owned_in, resized_at, resized_if, slots_at}
use Rattle.life_store.specs.Owners.{Words, birth, copied, copied_buffer, copied_slots, owning, sized_birth}
use Rattle.life_store.specs.Parts.{Parts, Single, Raw, Iterates, Views, Text, Vector, Unique, Member, NoMember, width}
use Rattle.life_forest.specs.Values.{AllWide}
use Rattle.life_forest.proofs.Coming.{IfGot, got_then, if_room}
use Rattle.life_forest.proofs.Lists.{length_back, length_front}
use Rattle.life_forest.proofs.Widths.{count-blank, wide-resized}

-- numbers may be new, and what was there is as it was
pub record Keeps (c d : Content) : Type 0 where
  pub births : c.births ≤ d.births
  pub same : (k : ℕ) → k < c.births → at d.objects k ≡ at c.objects k

pub keeps_all : (c : Content) → Keeps c c
keeps_all c = record { births = omega arith; same = λ k lt. refl }

pub keeps_then : (c d e : Content) → Keeps c d → Keeps d e → Keeps c e
keeps_then c d e a b = record {
  births = let x = a.births in let y = b.births in omega (arith, x, y);
  same = λ k lt. let x = a.births in b.same k (omega (arith, lt, x)) ∙ a.same k lt;
}

-- ---- a birth

-- the object that came has so many slots
pub record IsBorn (ty : TyId) (w size : ℕ) (c : Content) (b : ℕ × Content) : Type 0 where
  pub number : b.0 ≡ c.births
  pub keeps : Keeps c b.1
  pub born : b.0 < b.1.births
  pub object : Object
  pub there : at b.1.objects b.0 ≡ Some object
  pub type : object.ty ≡ ty
  pub width : object.width ≡ w
  pub capacity : object.capacity ≡ size
  pub count : length object.slots ≡ size
  pub wide : AllWide w object.slots

module _ (ty : TyId) (w size : ℕ) (c : Content) where
  abbrev begun : Content
  begun = with_birth ty w size c

  abbrev bare : Object
  bare = newborn ty w size c.clock

  abbrev sized : Content
  sized = with_resize c.births size 0 bare begun

  abbrev blanks : Object
  blanks = resized (c.clock + 1) size 0 bare

  is_sized : resized_at c.births size 0 begun ≡ sized
  is_sized = ap (λ (x : Option Object). resized_if x c.births size 0 begun) (at-set_same c.objects c.births c.births bare refl)

  born_sized : IsBorn ty w size c (c.births, sized)
  born_sized = record {
    number = refl;
    keeps = record {
      births = omega arith;
      same = λ k lt.
          at-set_other begun.objects c.births k blanks (λ e. absurd (omega (arith, e, lt)))
          ∙ at-set_other c.objects c.births k bare (λ e. absurd (omega (arith, e, lt)));
    };
    born = omega arith;
    object = blanks;
    there = at-set_same begun.objects c.births c.births blanks refl;
    type = refl;
    width = refl;
    capacity = refl;
    count = count-blank w (c.clock + 1) size;
    wide = wide-resized w (c.clock + 1) size 0 [] tt;
  }

  pub birth_kept : (s : Setting) → IfGot (sized_birth s ty w size c) (IsBorn ty w size c)
  birth_kept s =
      got_then (birth s ty w size c) (λ b. Got (b.0, resized_at b.0 size 0 b.1)) (λ b. IsBorn ty w size c (b.0, resized_at b.0 size 0 b.1)) (IsBorn ty w size c)
      (if_room _ _ (c.births, begun) (λ b. IsBorn ty w size c (b.0, resized_at b.0 size 0 b.1)) (subst (λ (d : Content). IsBorn ty w size c (c.births, d)) (sym is_sized) born_sized))
      (λ b h. h)

-- ---- the words of all slots are written into a new object

pub filled_kept : (c d : Content) (n : ℕ) (vs : List (List ℕ)) → c.births ≤ n → Keeps c d → Keeps c (filled n vs d)
filled_kept c d n vs le keeps = go (at d.objects n)
  where
    go : (x : Option Object) → Keeps c (filled_if x n vs d)
    go None = keeps
    go (Some o) = record { births = keeps.births; same = λ k lt. at-set_other d.objects n k _ (λ e. absurd (omega (arith, e, lt, le))) ∙ keeps.same k lt }

-- ---- copies

-- the content is kept, and as many words came as the value has
pub record IsCopy (w : ℕ) (ws : List ℕ) (c : Content) (v : Words) : Type 0 where
  pub keeps : Keeps c v.1
  pub long : length ws ≡ w → length v.0 ≡ w

abbrev KeepsRows : Content → List (List ℕ) × Content → Type 0
KeepsRows c vs = Keeps c vs.1

pub slots_kept : (w : ℕ) (copy : List ℕ → Content → Attempt Words) → ((ws : List ℕ) (c : Content) → IfGot (copy ws c) (IsCopy w ws c)) → (ss : List Slot) (c : Content) → IfGot (copied_slots copy ss c) (λ vs. Keeps c vs.1)
slots_kept w copy each [] c = keeps_all c
slots_kept w copy each (s ∷ ss) c =
    got_then (copy s.words c) (λ v. then_get (copied_slots copy ss v.1) (λ vs. Got (v.0 ∷ vs.0, vs.1))) (IsCopy w s.words c) (KeepsRows c) (each s.words c)
    (λ v a. got_then (copied_slots copy ss v.1) (λ vs. Got (v.0 ∷ vs.0, vs.1)) (KeepsRows v.1) (KeepsRows c) (slots_kept w copy each ss v.1) (λ vs b. keeps_then c v.1 vs.1 a.keeps b))

buffer_kept : (s : Setting) (ty : TyId) (w u : ℕ) (copy : List ℕ → Content → Attempt Words) → ((ws : List ℕ) (c : Content) → IfGot (copy ws c) (IsCopy u ws c)) → (x : Option ℕ) (ws : List ℕ) (c : Content)
    → IfGot (copied_buffer s ty w copy x c) (IsCopy 1 ws c)
buffer_kept s ty w u copy each None ws c = tt
buffer_kept s ty w u copy each (Some n) ws c =
    got_then (sized_birth s ty w (length (slots_at c n)) c) (λ b. then_get (copied_slots copy (slots_at c n) b.1) (λ vs. Got (owning (b.0, filled b.0 vs.0 vs.1)))) (IsBorn ty w (length (slots_at c n)) c) (IsCopy 1 ws c)
    (birth_kept ty w (length (slots_at c n)) c s)
    (λ b born. got_then (copied_slots copy (slots_at c n) b.1) (λ vs. Got (owning (b.0, filled b.0 vs.0 vs.1))) (KeepsRows b.1) (IsCopy 1 ws c) (slots_kept u copy each (slots_at c n) b.1)
    (λ vs k. record { keeps = filled_kept c vs.1 b.0 vs.0 (let e = born.number in omega (arith, e)) (keeps_then c b.1 vs.1 born.keeps k); long = λ e. refl }))

same_words : (w : ℕ) (ws : List ℕ) (c : Content) → IsCopy w ws c (ws, c)
same_words w ws c = record { keeps = keeps_all c; long = λ e. e }

pub copied_kept : (s : Setting) (p : Parts) (ws : List ℕ) (c : Content) → IfGot (copied s p ws c) (IsCopy (width p) ws c)
copied_kept s Single ws c = same_words 1 ws c
copied_kept s Raw ws c = same_words (width Raw) ws c
copied_kept s Iterates ws c = same_words (width Iterates) ws c
copied_kept s Views ws c = same_words (width Views) ws c
copied_kept s (Text ty) ws c = buffer_kept s ty 1 1 (λ vs d. Got (vs, d)) (λ vs d. same_words 1 vs d) (owned_in (slice_index ws 0)) ws c
copied_kept s (Vector ty element) ws c = buffer_kept s ty (width element) (width element) (copied s element) (copied_kept s element) (owned_in (slice_index ws 0)) ws c
copied_kept s (Unique ty target) ws c = tt
copied_kept s (Member first others) ws c =
    got_then (copied s first (take (width first) ws) c) (λ a. then_get (copied s others (drop (width first) ws) a.1) (λ b. Got (a.0 ++ b.0, b.1))) (IsCopy (width first) (take (width first) ws) c) (IsCopy (width first + width others) ws c)
    (copied_kept s first (take (width first) ws) c)
    (λ a x. got_then (copied s others (drop (width first) ws) a.1) (λ b. Got (a.0 ++ b.0, b.1)) (IsCopy (width others) (drop (width first) ws) a.1) (IsCopy (width first + width others) ws c)
    (copied_kept s others (drop (width first) ws) a.1)
    (λ b y. record {
      keeps = keeps_then c a.1 b.1 x.keeps y.keeps;
      long = λ e.
          let l = length-append a.0 b.0 in
          let m = x.long (length_front (width first) (width others) ws e) in
          let n = y.long (length_back (width first) (width others) ws e) in
          omega (arith, l, m, n);
    }))
copied_kept s NoMember ws c = record { keeps = keeps_all c; long = λ e. refl }
