-- A unique_ptr that comes to life, and is made to own an owner or a struct that was given over before: two instructions bring it to life, and nothing is left to do.
use Rattle.std.proofs.Common.{◌≡◌, [], ℕ, false, List, ◌∷◌, inl, inr, None, refl, sym, ap, append_assoc, append-nil}
use Rattle.life_types.specs.Pointees.{ty_of}
use Rattle.life_types.specs.TypeTests.{is_value}
use Rattle.life_types.specs.Types.{Types}
use Rattle.life_types.specs.declared.place.Place.{Place}
use Rattle.life_types.specs.declared.ty.Ty.{Ty}
use Rattle.life_types.specs.declared.ty.Ty.TheVariants as ty
use Rattle.life_types.specs.declared.ty.TyId.{TyId}
use Rattle.life_core.specs.Function.{Function}
use Rattle.life_core.specs.Operands.{whole}
use Rattle.life_core.specs.Step.{Live, Make}
use Rattle.life_core.specs.Tree.{Acts, Tree}
use Rattle.life_core.specs.declared.instr.Form.TheVariants.{Plain}
use Rattle.life_core.specs.declared.instr.Made.TheVariants as made
use Rattle.life_writer.specs.Around.{Around}
use Rattle.life_writer.specs.OwnerForms.{made_at}
use Rattle.life_writer.specs.Uses.{lived}
use Rattle.life_writer.specs.Writing.{Gives, State, gives, with_code}
use Rattle.life_elab_laws.proofs.Coming.{Comes}
use Rattle.life_elab_laws.proofs.Gifts.{a_given, a_place, both, nothing as no_gift}
use Rattle.life_elab_laws.proofs.Handing.{HandingAlone}
use Rattle.life_elab_laws.proofs.MadeForms.{Builds, found_stays, of_content}
use Rattle.life_elab_laws.proofs.OwnedSteps.{owned_code, owned_falls, owned_fine}
use Rattle.life_elab_laws.proofs.Parts.{gives_part}
use Rattle.life_elab_laws.proofs.Setting.{Setting}
use Rattle.life_elab_laws.proofs.UniqueSteps.{named_type}
use Rattle.life_elab_laws.proofs.UnseenLocals.{blank_within}

module _ (types : Types) (texts : ℕ) (fs : List Function) (f : Function) where
  abbrev pub taken_comes : (t : Ty) → is_value t ≡ false → (target : TyId) → ty_of types target ≡ t → (place : Place) (s : State) (w : Gives ℕ) (over : HandingAlone types texts fs f (w.given ∷ []) s w (a_given types texts fs f t))
      → Comes types texts fs f (w.given ∷ []) s w (a_given types texts fs f t) over (ty.Unique target)
  taken_comes t plain target holds place s w over = record {
    code = λ begins n. owned_code types texts fs f n w.given begins place;
    fine = λ q begins n can is. owned_fine types texts fs f n w.given begins place target t plain holds can (named_type types texts fs f target false n is) q;
    falls = λ r begins n k q none born aside.
        owned_falls types texts fs f n w.given begins place (λ e. aside (inl e)) (r.objects w.given (inl refl)) k (blank_within k n born) (none w.given (inl refl)) born;
    named = λ begins n y m. m;
    looks = λ begins n k q. refl;
    births = λ begins n y m. elim m [ inl e ↦ e | inr none ↦ absurd none ];
  }

module _ (a : Around) (visible : List ℕ) (types : Types) (texts : ℕ) (fs : List Function) (f : Function) (setting : Setting a types fs f) where
  pub taken_builds : (t : Ty) → is_value t ≡ false → (target : TyId) → ty_of types target ≡ t → (place : Place) (s : State) (w : Gives ℕ) → HandingAlone types texts fs f (w.given ∷ []) s w (a_given types texts fs f t)
      → Builds a visible types texts fs f setting (ty.Unique target) s (gives (lived Plain (made_at place (made.Of w.given))) w.state)
  taken_builds t plain target holds place s w over = record {
    making = of_content t;
    found = w.given;
    over = w.given ∷ [];
    hands = over;
    comes = taken_comes types texts fs f t plain target holds place s w over;
    act = λ start to r. r;
    lives = λ d r.
        let b = d.begins r in
        ap (λ (c : List Tree). gives b.given (with_code c b.state)) (append_assoc b.state.code (Acts d.place (Live b.given Plain) ∷ []) (Acts place (Make (whole b.given) (made.Of w.given)) ∷ []));
    acts = λ start to r stands still new.
        gives_part types texts fs f (both types texts fs f (a_given types texts fs f t) (a_place types texts fs f (ty.Unique target) false)) (w.given, to) None tt r (no_gift types texts fs f) (λ b h. tt) (λ b k alive h. tt);
    alone = λ e. record {
      free = λ start to r pending. refl;
      kept = λ start to r living. refl;
      code = λ start to r. [];
      written = λ start to r. sym (append-nil r.code);
      looks = λ start to r still y m. absurd m;
    };
    stays = λ x n k blank aside ready. found_stays a visible types texts fs f setting x (of_content t) w.given n k blank aside ready;
  }
