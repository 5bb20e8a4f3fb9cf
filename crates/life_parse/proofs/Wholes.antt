-- What was read is a tree of the form, however deep.
use Rattle.std.proofs.Common.{◌≡◌, ℕ, true, false, ◌∷◌, ◌++◌, inl, inr, refl, sym, ap, subst, ◌∙◌, append_assoc}
use Rattle.life_parse.proofs.ElseTokens.{empty_tokens, else_first, ends_open_pair}
use Rattle.life_parse.proofs.Laws.{else_in_front, IsTree}
use Rattle.life_parse.proofs.Parts.{fits_or}
use Rattle.life_tree.specs.Grammar.{Form, ◌or◌, opens, rule, form_of, Conforms, ends_open}
use Rattle.life_tree.specs.Rules.{Rule}
use Rattle.life_tree.specs.Tree.{Tree, ◌⨾◌, construct, node, tokens_of, Tokens}
use Rattle.life_tree.specs.declared.key.TokenKey.TheVariants as keys
use Rattle.life_types.specs.declared.place.Place.{Place}

-- t was read of ts, and rest is left
pub record Whole (f : Form) (ts : Tokens) (t : Tree) (rest : Tokens) : Type 0 where
  pub spelled : ts ≡ tokens_of t ++ rest
  pub fits : IsTree t f
  pub elses : else_in_front rest ≡ true → ends_open t ≡ false

-- a form that two parts make up, each of a form of its own
abbrev pub Joins : Form → (Tree → Form) → Form → Type 0
Joins f g h = (a b : Tree) → Conforms a f → Conforms b (g a) → Conforms (a ⨾ b) h

pub whole_pair : (f : Form) (g : Tree → Form) (h : Form) → Joins f g h → (ts : Tokens) (a : Tree) (mid : Tokens) (b : Tree) (rest : Tokens) → Whole f ts a mid → Whole (g a) mid b rest → Whole h ts (a ⨾ b) rest
whole_pair f g h joins ts a mid b rest v w = record {
  spelled = v.spelled ∙ ap (λ (u : Tokens). tokens_of a ++ u) w.spelled ∙ sym (append_assoc (tokens_of a) (tokens_of b) rest);
  fits = record {
    conforms = joins a b v.fits.conforms w.fits.conforms;
    elses = (v.fits.elses, w.fits.elses, λ first. v.elses (subst (λ (u : Tokens). else_in_front u ≡ true) (sym w.spelled) (else_first b rest first)));
  };
  elses = λ front. ends_open_pair a b (w.elses front) (λ empty.
      let same : mid ≡ rest = w.spelled ∙ ap (λ (u : Tokens). u ++ rest) (empty_tokens b empty) in
      v.elses (subst (λ (u : Tokens). else_in_front u ≡ true) (sym same) front));
}

pub fits_left : (t : Tree) (f g : Form) → Conforms t f → Conforms t (f or g)
fits_left t f g h = fits_or t f g (inl h)

pub fits_right : (t : Tree) (f g : Form) → Conforms t g → Conforms t (f or g)
fits_right t f g h = fits_or t f g (inr h)

pub whole_as : (f g : Form) → ((t : Tree) → Conforms t f → Conforms t g) → (ts : Tokens) (t : Tree) (rest : Tokens) → Whole f ts t rest → Whole g ts t rest
whole_as f g as_well ts t rest w = record { spelled = w.spelled; fits = record { conforms = as_well t w.fits.conforms; elses = w.fits.elses }; elses = w.elses }

pub whole_node : (r : Rule) (ts : Tokens) (t : Tree) (rest : Tokens) → Whole (form_of r) ts t rest → Whole (rule r) ts (node r t) rest
whole_node r ts t rest w = record { spelled = w.spelled; fits = record { conforms = (refl, w.fits.conforms); elses = w.fits.elses }; elses = w.elses }

pub whole_construct : (m : ℕ) (f : Form) (ts : Tokens) (place : Place) (mid : Tokens) (t : Tree) (rest : Tokens) → ts ≡ record { key = keys.Fixed m; place = place } ∷ mid → Whole f mid t rest → Whole (opens m f) ts (construct m place t) rest
whole_construct m f ts place mid t rest front w = record {
  spelled = front ∙ ap (λ (u : Tokens). record { key = keys.Fixed m; place = place } ∷ u) w.spelled;
  fits = record { conforms = (refl, w.fits.conforms); elses = w.fits.elses };
  elses = w.elses;
}
