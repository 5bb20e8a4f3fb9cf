-- What no unique_ptr is copied with has copies.
use Rattle.life_store.specs.Parts.{Parts, Single, Raw, Iterates, Views, Text, Vector, Unique, Member, NoMember}
use Rattle.life_forest.proofs.CopiedTypes.{NoUnique}
use Rattle.life_values.specs.Copyable.{HasCopy}

pub has_copy : (p : Parts) → NoUnique p → HasCopy p
has_copy Single free = tt
has_copy Raw free = tt
has_copy Iterates free = tt
has_copy Views free = tt
has_copy (Text ty) free = tt
has_copy (Vector ty element) free = has_copy element free
has_copy (Unique ty target) free = absurd free
has_copy (Member first others) free = (has_copy first free.0, has_copy others free.1)
has_copy NoMember free = tt
