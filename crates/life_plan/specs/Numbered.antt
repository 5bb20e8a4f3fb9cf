-- What the numbers of a plan mean, against the rules.
use Rattle.std.specs.Prelude.{◌≡◌, ◌⊎◌, ◌↔◌, ◌<◌, ℕ, Bool, false, IsTrue, IfSome, List, [], Option, Some, None, Contains, length, slice_get}
use Rattle.std.specs.List.{flat_map}
use Rattle.life_pset.specs.Table.{Names}
use Rattle.life_pset.specs.declared.element.AbsPlace.{AbsPlace}
use Rattle.life_pset.specs.declared.element.Element.{Element}
use Rattle.life_pset.specs.declared.element.Fact.{Fact}
use Rattle.life_sets.specs.NumberSets.{holds}
use Rattle.life_rules.specs.FactSets.{pair_facts}
use Rattle.life_rules.specs.Staying.{made_at, mark, marks, spot_reads, spot_targets, spot_writes, staying}
use Rattle.life_plan.specs.Crossing.{Crossing}
use Rattle.life_plan.specs.declared.marking.Marking.{Marking}
use Rattle.life_plan.specs.declared.reading.Reading.{Reading}
use Rattle.life_plan.specs.declared.staying.Becoming.{Becoming}
use Rattle.life_plan.specs.declared.staying.Staying.{Staying}
use Rattle.life_plan.specs.declared.tabulated.Tabulated.{Tabulated}

-- a test of the location with a number
abbrev pub passes : {A : Type 0} → (A → Bool) → Option A → Bool
passes test None = false
passes test (Some x) = test x

-- ---- what becomes of elements at a location that isn't written

-- one of these changes leads from the first element to the second
abbrev pub Becomes : List Becoming → (e m : ℕ) → Type 0
Becomes changes e m = (k : ℕ) × ((c : Becoming) × ((slice_get changes k ≡ Some c) × ((c.element ≡ m) × IsTrue (holds c.from e))))

-- the change with this number leads from one of these elements to that one
abbrev pub IsChangedBy : List Becoming → (elements : ℕ → Bool) → (k m : ℕ) → Type 0
IsChangedBy changes elements k m = (c : Becoming) × ((slice_get changes k ≡ Some c) × ((c.element ≡ m) × ((e : ℕ) × (IsTrue (elements e) × IsTrue (holds c.from e)))))

-- it stays as it is, or becomes the other one
abbrev pub StaysAs : Staying → (e m : ℕ) → Type 0
StaysAs s e m = ((e ≡ m) × (holds s.gone e ≡ false)) ⊎ Becomes s.becoming.items e m

-- the sets are for that many elements
abbrev pub AreSized : (elements : ℕ) → List Becoming → Type 0
AreSized elements changes = (k : ℕ) (b : Becoming) → slice_get changes k ≡ Some b → (b.element < elements) × (b.from.limit ≡ elements)

pub record IsSizedStaying (elements : ℕ) (s : Staying) : Type 0 where
  pub gone : s.gone.limit ≡ elements
  pub becoming : AreSized elements s.becoming.items

-- the numbers say what the rules say of the locations and the elements of the table
pub record IsStaying (c : Crossing) (s : Staying) : Type 0 where
  pub sized : IsSizedStaying (length c.table.elements) s
  pub written : (n : ℕ) (l : AbsPlace) → slice_get c.table.locations n ≡ Some l → holds s.written n ≡ spot_writes c.spot l
  pub stays : (e m : ℕ) (x y : Element) → slice_get c.table.elements e ≡ Some x → slice_get c.table.elements m ≡ Some y → StaysAs s e m ↔ Contains (staying c.types c.f c.spot x) y

-- ---- what targets mark

-- the target with this number marks the element with that number
abbrev pub MarksNumber : Crossing → (target victim : ℕ) → Type 0
MarksNumber c target victim =
    (a : Element) × ((b : Element) × ((slice_get c.table.elements target ≡ Some a) × ((slice_get c.table.elements victim ≡ Some b) × IsTrue (marks c.spot a b))))

-- some target of the set marks the element
abbrev pub IsMarked : Crossing → Marking → (from : ℕ → ℕ → Bool) → ℕ → Type 0
IsMarked c m from e = (q : ℕ) × ((d : ℕ) × (IsTrue (holds m.targets q) × (IsTrue (from q d) × MarksNumber c d e)))

-- one of these that wasn't seen marks the element
abbrev pub IsNew : Crossing → (seen targets : ℕ → Bool) → ℕ → Type 0
IsNew c seen targets e = (d : ℕ) × ((seen d ≡ false) × (IsTrue (targets d) × MarksNumber c d e))

pub record IsSizedMarking (elements : ℕ) (m : Marking) : Type 0 where
  pub seen : m.seen.limit ≡ elements
  pub mask : m.mask.limit ≡ elements
  pub mark : IfSome m.mark (λ n. n < elements)

pub record IsMarking (c : Crossing) (m : Marking) : Type 0 where
  pub sized : IsSizedMarking (length c.table.elements) m
  pub within : m.targets.limit ≡ length c.table.locations
  pub targets : (n : ℕ) (l : AbsPlace) → slice_get c.table.locations n ≡ Some l → holds m.targets n ≡ spot_targets c.sigs c.types c.f c.spot l
  pub mark : (n : ℕ) (y : Element) → slice_get c.table.elements n ≡ Some y → (m.mark ≡ Some n) ↔ (mark c.spot ≡ Some y)

-- ---- what is kept at a location

-- the element stays as the other, or is marked and the other is the mark
abbrev pub LeadsTo : Staying → Marking → (e m : ℕ) → Type 0
LeadsTo s k e m = StaysAs s e m ⊎ (IsTrue (holds k.mask e) × (k.mark ≡ Some m))

-- each element stays as it is, and leads to nothing else
pub record MovesNothing (s : Staying) (k : Marking) : Type 0 where
  pub gone : (e : ℕ) → holds s.gone e ≡ false
  pub becoming : s.becoming.items ≡ []
  pub mark : k.mark ≡ None

-- a location that isn't written has such an element; both are below these limits
abbrev pub KeepsFrom : Staying → Marking → (locations elements : ℕ) → (from : ℕ → ℕ → Bool) → (l m : ℕ) → Type 0
KeepsFrom s k locations elements from l m =
    (l < locations) × ((holds s.written l ≡ false) × ((e : ℕ) × ((e < elements) × (IsTrue (from l e) × LeadsTo s k e m))))

-- ---- what is made at locations that are read

abbrev pub IsReadAt : List Reading → ℕ → Type 0
IsReadAt readings n = (k : ℕ) × ((r : Reading) × ((slice_get readings k ≡ Some r) × (r.location ≡ n)))

-- the readings after stand where those before stand
abbrev pub HaveSameLocations : (before after : List Reading) → Type 0
HaveSameLocations before after = (n : ℕ) → IsReadAt before n ↔ IsReadAt after n

abbrev pub AreSizedReadings : Crossing → List Reading → Type 0
AreSizedReadings c readings = (k : ℕ) (r : Reading) → slice_get readings k ≡ Some r → (r.location < length c.table.locations) × (r.seen.limit ≡ length c.table.elements)

pub record AreReadings (c : Crossing) (readings : List Reading) : Type 0 where
  pub sized : AreSizedReadings c readings
  pub each : (n : ℕ) (l : AbsPlace) → slice_get c.table.locations n ≡ Some l → IsReadAt readings n ↔ IsTrue (spot_reads c.spot l)

-- none of its elements was seen
pub record IsUnseen (elements location : ℕ) (r : Reading) : Type 0 where
  pub stands : r.location ≡ location
  pub limit : r.seen.limit ≡ elements
  pub none : (e : ℕ) → holds r.seen e ≡ false

-- the facts that are made of a fact, and of that of a location and an element
abbrev pub made_by : Crossing → Fact → List Fact
made_by c x = made_at c.sigs c.types c.f c.branch c.spot x

abbrev pub made_facts : Crossing → (location element : ℕ) → List Fact
made_facts c location element = flat_map (made_by c) (pair_facts c.table (location, element))

-- the fact is made of one of these elements at a location
abbrev pub IsMadeAt : Crossing → (location : ℕ) → (elements : ℕ → Bool) → Fact → Type 0
IsMadeAt c location elements y = (e : ℕ) × (IsTrue (elements e) × Contains (made_facts c location e) y)

-- .. below a number
abbrev pub IsMadeBelow : Crossing → (location : ℕ) → (elements : ℕ → Bool) → (below : ℕ) → Fact → Type 0
IsMadeBelow c location elements below y = (e : ℕ) × ((e < below) × (IsTrue (elements e) × Contains (made_facts c location e) y))

-- the pair stands for such a fact
abbrev pub MakesAt : Crossing → (location : ℕ) → (elements : ℕ → Bool) → (l m : ℕ) → Type 0
MakesAt c location elements l m = (y : Fact) × (Names c.table l m y × IsMadeAt c location elements y)

-- .. made at some location that is read
abbrev pub MakesFrom : Crossing → List Reading → (from : ℕ → ℕ → Bool) → (l m : ℕ) → Type 0
MakesFrom c readings from l m = (n : ℕ) × (IsReadAt readings n × MakesAt c n (from n) l m)

-- ---- what is tabulated of an edge

pub record IsTabulated (c : Crossing) (t : Tabulated) : Type 0 where
  pub staying : IsStaying c t.staying
  pub marking : IsMarking c t.marking
  pub readings : AreReadings c t.readings.items

-- ---- where nothing comes of facts but each fact itself

-- the pair is in the set, and below these limits
abbrev pub IsAmong : (locations elements : ℕ) → (from : ℕ → ℕ → Bool) → (l m : ℕ) → Type 0
IsAmong locations elements from l m = (l < locations) × ((m < elements) × IsTrue (from l m))

-- .. at this location
abbrev pub IsAmongAt : (at locations elements : ℕ) → (from : ℕ → ℕ → Bool) → (l m : ℕ) → Type 0
IsAmongAt at locations elements from l m = (l ≡ at) × IsAmong locations elements from l m
