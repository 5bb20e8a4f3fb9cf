-- An empty store is housed, and stands for an empty content.
use Rattle.std.proofs.Common.{◌≡◌, ℕ, sym, ap, ◌∙◌}
use Rattle.std.proofs.lemmas.Option.{none-some}
use Rattle.life_store.specs.Cells.{Cells, none, at, at-none, same_cells}
use Rattle.life_store.specs.Content.{Object, empty_content}
use Rattle.life_seen.specs.Housed.{Shows}
use Rattle.life_seen.specs.Kinds.{Kinds}
use Rattle.life_seen.specs.Mapped.{mapped}
use Rattle.life_seen.specs.Named.{inverted}
use Rattle.life_seen.specs.Rowed.{AreRowed}
use Rattle.life_seen.specs.Seen.{object_seen}
use Rattle.life_seen.proofs.MapViews.{at-mapped}
use Rattle.std.specs.Prelude.{option_map, Some}

nothing : {A : Type 0} (n : ℕ) (v : A) → at (let m : Cells A = none in m) n ≡ Some v → ⊥
nothing n v e = none-some v (sym (at-none n) ∙ e)

pub shows_empty : (kinds : Kinds) → Shows kinds empty_content none empty_content
unfolding inverted
shows_empty kinds = record {
  housed = record {
    apart = λ m n k x y. absurd (nothing m k x);
    below = λ n k x. absurd (nothing n k x);
    small = λ n k x. absurd (nothing n k x);
    named = record {
      row = λ n o x. absurd (nothing n o x);
      lives = λ k n x. absurd (nothing k n x);
      one = λ j k n x y. absurd (nothing j n x);
      below = λ k n x. absurd (nothing k n x);
      owners = λ n o x. absurd (nothing n o x);
    };
  };
  is = ap (λ (m : Cells Object). record { objects = m; births = 0; clock = 0 })
      (same_cells (mapped (object_seen kinds none) none) none (λ q. at-mapped (object_seen kinds none) none q ∙ ap (option_map (object_seen kinds none)) (at-none q) ∙ sym (at-none q)));
}

pub empty_rowed : (kinds : Kinds) → AreRowed kinds empty_content none
empty_rowed kinds n o there = absurd (nothing n o there)
