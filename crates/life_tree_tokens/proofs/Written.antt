-- What is written one part after the other is the whole.
use Rattle.std.proofs.Common.{◌≡◌, ◌++◌, ℕ, ◌≤◌, List, [], Result, length, drop, refl, sym, ap, ◌∙◌, append_assoc}
use Rattle.std.proofs.lemmas.List.{at_drop_all, append-nil}
use Rattle.std.proofs.lemmas.Result.{on_ok_weaker}
use Rattle.std.specs.Result.{OnOk}
use Rattle.life_tree.specs.declared.key.TokenKey.{TokenKey}
use Rattle.life_types.specs.declared.memory.NoMemory.{NoMemory}

-- a part, and then a list to its end
pub ended : {A : Type 0} (F G : List A → List TokenKey) (items all : List A) (i : ℕ) (a whole old m new : List TokenKey) → length items ≤ i → F [] ≡ [] → new ++ F (drop i items) ≡ m ++ G items → items ≡ all → m ≡ old ++ a → whole ≡ a ++ G all → new ≡ old ++ whole
ended F G items all i a whole old m new past none rest same start is =
    sym (append-nil new) ∙ ap (λ (ks : List TokenKey). new ++ ks) (sym none ∙ sym (at_drop_all F items i past)) ∙ rest
    ∙ ap (λ (ks : List TokenKey). ks ++ G items) start ∙ append_assoc old a (G items) ∙ ap (λ (ks : List TokenKey). old ++ ks) (ap (λ ts. a ++ G ts) same ∙ sym is)

-- a list to its end, and then the last
pub listed : {A : Type 0} (r : Result (Unit {0}) NoMemory) (F : List A → List TokenKey) (items : List A) (i : ℕ) (last whole old m new : List TokenKey) → length items ≤ i → F [] ≡ last → m ++ F (drop i items) ≡ old ++ whole → OnOk r (new ≡ m ++ last) → OnOk r (new ≡ old ++ whole)
listed r F items i last whole old m new past none rest = on_ok_weaker r
    (λ (e : new ≡ m ++ last). e ∙ ap (λ (ks : List TokenKey). m ++ ks) (sym none ∙ sym (at_drop_all F items i past)) ∙ rest)

-- a part, and then the last
pub both : (r : Result (Unit {0}) NoMemory) (a b whole old m new : List TokenKey) → m ≡ old ++ a → whole ≡ a ++ b → OnOk r (new ≡ m ++ b) → OnOk r (new ≡ old ++ whole)
both r a b whole old m new start is = on_ok_weaker r
    (λ (e : new ≡ m ++ b). e ∙ ap (λ (ks : List TokenKey). ks ++ b) start ∙ append_assoc old a b ∙ ap (λ (ks : List TokenKey). old ++ ks) (sym is))

-- a part, another, and then the last
pub joined : (r : Result (Unit {0}) NoMemory) (a b last whole old m1 m2 new : List TokenKey) → m1 ≡ old ++ a → m2 ≡ m1 ++ b → whole ≡ a ++ (b ++ last) → OnOk r (new ≡ m2 ++ last) → OnOk r (new ≡ old ++ whole)
joined r a b last whole old m1 m2 new start next is rest = both r a (b ++ last) whole old m1 new start is (both r b last (b ++ last) m1 m2 new next refl rest)
