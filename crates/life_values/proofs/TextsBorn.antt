-- The buffer of a string comes to life in a store as in the meaning.
use Rattle.std.proofs.Common.{◌≡◌, ℕ, ◌+◌, ◌*◌, ◌<◌, ◌≤◌, List, [], length, Option, Some, Ok, Err, refl, sym, ap, ◌∙◌, arith}
use Rattle.std.specs.Prelude.{map}
use Rattle.life_types.specs.declared.ty.TyId.{TyId}
use Rattle.life_store.specs.Cells.{at, at-set_same}
use Rattle.life_store.specs.Content.{Object, Content, live_words_of, newborn, resized, with_birth, without}
use Rattle.life_store.specs.Edits.{one_word, owns, rewritten}
use Rattle.life_store.specs.Effects.{Setting, Attempt, Got, GotTrap, GotFault, GotLost, then_get}
use Rattle.life_store.specs.Held.{filled, filled_if, resized_at, resized_if}
use Rattle.life_store.specs.Kinds.{Plain}
use Rattle.life_store.specs.Owners.{sized_birth}
use Rattle.life_store.specs.Places.{Spot}
use Rattle.life_store.specs.References.{Rows}
use Rattle.life_store.specs.declared.object.BirthFault.{BirthFault}
use Rattle.life_store.specs.declared.object.BirthFault.TheVariants as birth_fault
use Rattle.life_store.specs.declared.object.ObjRef.{ObjRef}
use Rattle.life_forest.proofs.Widths.{count-blank, wide-resized}
use Rattle.life_seen.specs.Housed.{Later, Shows}
use Rattle.life_seen.specs.Kinds.{Kinds}
use Rattle.life_seen.specs.Seen.{seen}
use Rattle.life_seen.proofs.References.{later_then}
use Rattle.life_values.specs.Texts.{text_born, with_characters, CanWrite, IsBuffer}
use Rattle.life_values.proofs.Beginning.{birth_full, birth_room}

abbrev pub characters_in : List ℕ → ℕ × Content → Attempt (ℕ × Content)
characters_in ws f = Got (f.0, with_characters f.0 ws f.1)

abbrev pub all_slots : ℕ → ℕ × Content → Attempt (ℕ × Content)
all_slots size b = Got (b.0, resized_at b.0 size 0 b.1)

module _ (kinds : Kinds) (ty : TyId) (ws : List ℕ) (limit : ℕ) (c : Content) (rows : Rows) where
  -- there was no room
  pub text_fails : (fault : BirthFault) → (fault ≡ birth_fault.Cells → limit < live_words_of c + (2 + 1 * length ws)) → (d : Content) (new : Rows) (s : Setting) → s.given.cells ≡ limit
      → IsBuffer kinds (text_born s ty ws (seen kinds c rows)) (Err fault) d new
  text_fails birth_fault.Cells full d new s cells =
      ap (λ x. then_get (then_get x (all_slots (length ws))) (characters_in ws)) (birth_full kinds s c rows ty 1 (length ws) limit cells (full refl))
  text_fails birth_fault.NoMemory full d new s cells = tt

  module _ (room : live_words_of c + (2 + 1 * length ws) ≤ limit) (q : ObjRef) (number : q.birth ≡ c.births) (d : Content) (new : Rows)
      (shows : Shows kinds d new (resized_at c.births (length ws) 0 (with_birth ty 1 (length ws) (seen kinds c rows)))) (placed : at new q.birth ≡ Some q.row) where
    abbrev blanks : Object
    blanks = resized (c.clock + 1) (length ws) 0 (newborn ty 1 (length ws) c.clock)

    there : at (seen kinds d new).objects q.birth ≡ Some (resized (c.clock + 1) (length ws) 0 (newborn ty 1 (length ws) c.clock))
    there =
        let m = seen kinds c rows in
        (λ i. at (shows.is i).objects (number i))
        ∙ ap (λ (x : Option Object). at (resized_if x c.births (length ws) 0 (with_birth ty 1 (length ws) (seen kinds c rows))).objects c.births) (at-set_same m.objects c.births c.births (newborn ty 1 (length ws) c.clock) refl)
        ∙ at-set_same (with_birth ty 1 (length ws) (seen kinds c rows)).objects c.births c.births blanks refl

    pub can_write : kinds ty 0 ≡ Plain → CanWrite kinds q (length ws) d new
    can_write plain = record {
      housed = shows.housed;
      placed = placed;
      object = blanks;
      there = there;
      width = refl;
      long = wide-resized 1 (c.clock + 1) (length ws) 0 [] tt;
      count = count-blank 1 (c.clock + 1) (length ws);
      plain = plain;
    }

    pub text_comes : (e : Content) (after : Rows) → Shows kinds e after (with_characters q.birth ws (seen kinds d new)) → after ≡ new → (s : Setting) → s.given.cells ≡ limit
        → IsBuffer kinds (text_born s ty ws (seen kinds c rows)) (Ok q) e after
    text_comes e after written same s cells = (
      with_characters q.birth ws (seen kinds d new),
      ap (λ x. then_get (then_get x (all_slots (length ws))) (characters_in ws)) (birth_room kinds s c rows ty 1 (length ws) limit cells (λ full. absurd (omega (arith, full, room))))
          ∙ (λ i. characters_in ws (sym number i, sym shows.is i)),
      written,
      ap (λ (x : Rows). at x q.birth) same ∙ placed,
    )

    pub text_later : (e : Content) (after : Rows) → Shows kinds e after (with_characters q.birth ws (seen kinds d new)) → after ≡ new → Later c d rows new → Later c e rows after
    text_later e after written same later =
        later_then c d e rows new after later
        (record {
          births = let b = ap (λ (x : Content). x.births) written.is ∙ ap (λ (x : Option Object). (filled_if x q.birth (map one_word ws) (seen kinds d new)).births) there in omega (arith, b);
          row = λ n k lt t. ap (λ (x : Rows). at x n) (sym same) ∙ t;
        })

-- what a string is rewritten to is born, and taken in place of the old buffer
pub rewritten_is : (s : Setting) (ty : TyId) (spot : Spot) (b : ℕ) (ws : List ℕ) (c : Content) → rewritten s ty spot b ws c ≡ then_get (text_born s ty ws c) (λ f. Got (owns spot f.0 (without b f.1)))
rewritten_is s ty spot b ws c = go (sized_birth s ty 1 (length ws) c)
  where
    go : (x : Attempt (ℕ × Content)) → then_get x (λ f. Got (owns spot f.0 (without b (filled f.0 (map one_word ws) f.1)))) ≡ then_get (then_get x (characters_in ws)) (λ f. Got (owns spot f.0 (without b f.1)))
    go (Got f) = refl
    go (GotTrap t) = refl
    go (GotFault t) = refl
    go GotLost = refl
