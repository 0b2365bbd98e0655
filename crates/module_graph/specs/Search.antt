-- What a search for cycles knows at each moment.
use Rattle.std.specs.Prelude.{◌≡◌, ℕ, ◌+◌, ◌-◌, ◌<◌, ◌≤◌, List, [], ◌∷◌, ◌++◌, Option, None, Some, map, length, take, drop, Contains, ◌⊎◌, slice_get, slice_set, nat_le, replicate, if◌then◌else◌}
use Rattle.module_graph.specs.declared.node.Call.{Call}
use Rattle.module_graph.specs.declared.node.Node.{Node}
use Rattle.module_graph.specs.declared.search.Mark.{Mark}
use Rattle.module_graph.specs.declared.search.Mark.TheVariants.{New, Open, Closed}
use Rattle.module_graph.specs.declared.search.Search.{Search}
use Rattle.module_graph.specs.Requires.{calls_at, Requires, Reaches}

-- every require that means a module means one that is there
abbrev pub IsGraph : List Node → Type 0
IsGraph nodes = (file to : ℕ) (call : Call) → Contains (calls_at nodes file) call → call.to ≡ Some to → to < length nodes

-- the one module is the other, or reaches it
abbrev pub Leads : List Node → ℕ → ℕ → Type 0
Leads nodes from to = (from ≡ to) ⊎ Reaches nodes from to

-- a list has an item at some place
abbrev pub Has : List ℕ → ℕ → Type 0
Has items item = (k : ℕ) × (slice_get items k ≡ Some item)

-- each number of a list is below the later ones
abbrev pub Rises : List ℕ → Type 0
Rises items = (i j x y : ℕ) → i < j → slice_get items i ≡ Some x → slice_get items j ≡ Some y → x < y

-- what the search has: a mark of each module; the open modules in the order in which they were met; places of open modules, where the path goes on and where groups begin; and the closed modules in order
pub record State : Type 0 where
  pub marks : List Mark
  pub opened : List ℕ
  pub path : List ℕ
  pub starts : List ℕ
  pub order : List ℕ

abbrev pub state_of : Search → State
state_of search = record { marks = search.marks.items; opened = search.opened.items; path = search.path.items; starts = search.starts.items; order = search.order.items }

-- no group begins after one place and up to another
abbrev pub IsJoined : List ℕ → ℕ → ℕ → Type 0
IsJoined starts low high = (start : ℕ) → Has starts start → start ≤ high → start ≤ low

-- a module is closed, or is open in the group of a place or in a later one
abbrev pub IsMet : State → ℕ → ℕ → Type 0
IsMet s place file = ((number : ℕ) × (slice_get s.marks file ≡ Some (Closed number))) ⊎ ((at next : ℕ) × (slice_get s.marks file ≡ Some (Open at next)) × IsJoined s.starts at place)

-- what holds at each moment of the search
pub record IsSearch (nodes : List Node) (s : State) : Type 0 where
  pub marked : length s.marks ≡ length nodes
  pub placed : (p x : ℕ) → slice_get s.opened p ≡ Some x → (next : ℕ) × (slice_get s.marks x ≡ Some (Open p next))
  pub there : (x p next : ℕ) → slice_get s.marks x ≡ Some (Open p next) → slice_get s.opened p ≡ Some x
  pub onward : (p q x y : ℕ) → p ≤ q → slice_get s.opened p ≡ Some x → slice_get s.opened q ≡ Some y → Leads nodes x y
  pub back : (p q x y : ℕ) → q ≤ p → slice_get s.opened p ≡ Some x → slice_get s.opened q ≡ Some y → IsJoined s.starts q p → Leads nodes x y
  pub met : (x p next k y : ℕ) (call : Call) → slice_get s.marks x ≡ Some (Open p next) → k < next → slice_get (calls_at nodes x) k ≡ Some call → call.to ≡ Some y → IsMet s p y
  pub going : (x p next : ℕ) → slice_get s.marks x ≡ Some (Open p next) → Has s.path p ⊎ (length (calls_at nodes x) ≤ next)
  pub path_in : (p : ℕ) → Has s.path p → p < length s.opened
  pub path_rises : Rises s.path
  pub starts_in : (p : ℕ) → Has s.starts p → Has s.path p
  pub starts_rise : Rises s.starts
  pub ground : 0 < length s.opened → Has s.starts 0
  pub closed : (x n y : ℕ) (call : Call) → slice_get s.marks x ≡ Some (Closed n) → Contains (calls_at nodes x) call → call.to ≡ Some y → (m : ℕ) × (slice_get s.marks y ≡ Some (Closed m)) × (m ≤ n)
  pub together : (x y n : ℕ) → slice_get s.marks x ≡ Some (Closed n) → slice_get s.marks y ≡ Some (Closed n) → Leads nodes x y
  pub numbered : (x n : ℕ) → slice_get s.marks x ≡ Some (Closed n) → n < length s.order
  pub listed : (x n : ℕ) → slice_get s.marks x ≡ Some (Closed n) → Has s.order x
  pub order_closed : (x : ℕ) → Has s.order x → (n : ℕ) × (slice_get s.marks x ≡ Some (Closed n))
  pub once : (i j x : ℕ) → slice_get s.order i ≡ Some x → slice_get s.order j ≡ Some x → i ≡ j
  pub ordered : (i j x y m n : ℕ) → i ≤ j → slice_get s.order i ≡ Some x → slice_get s.order j ≡ Some y → slice_get s.marks x ≡ Some (Closed m) → slice_get s.marks y ≡ Some (Closed n) → m ≤ n

-- what a step leaves: closed modules stay closed, and no module is new again
pub record Settles (before after : State) : Type 0 where
  pub closed : (x n : ℕ) → slice_get before.marks x ≡ Some (Closed n) → slice_get after.marks x ≡ Some (Closed n)
  pub fresh : (x : ℕ) → slice_get after.marks x ≡ Some New → slice_get before.marks x ≡ Some New

-- a new module is met: it opens, goes on the path and begins a group
abbrev pub entered : State → ℕ → State
entered s file = record { marks = slice_set s.marks file (Open (length s.opened) 0); opened = s.opened ++ file ∷ []; path = s.path ++ length s.opened ∷ []; starts = s.starts ++ length s.opened ∷ []; order = s.order }

-- the next require of an open module is looked at
abbrev pub advanced : State → ℕ → ℕ → ℕ → State
advanced s file at next = record { marks = slice_set s.marks file (Open at (next + 1)); opened = s.opened; path = s.path; starts = s.starts; order = s.order }

-- the groups after a place are joined to the one that it is in
pub record Merges (at : ℕ) (before after : List ℕ) : Type 0 where
  pub dropped : List ℕ
  pub parted : before ≡ after ++ dropped
  pub above : (p : ℕ) → Has dropped p → at < p
  pub kept : (p : ℕ) → Has after p → p ≤ at

abbrev pub with_starts : State → List ℕ → State
with_starts s starts = record { marks = s.marks; opened = s.opened; path = s.path; starts = starts; order = s.order }

abbrev pub with_path : State → List ℕ → State
with_path s path = record { marks = s.marks; opened = s.opened; path = path; starts = s.starts; order = s.order }

-- a mark once the open modules from a place on are closed
abbrev pub close_mark : ℕ → ℕ → Mark → Mark
close_mark start number New = New
close_mark start number (Closed own) = Closed own
close_mark start number (Open at next) = if nat_le start at then Closed number else Open at next

-- the open modules from a place on are closed, with one number
abbrev pub closing : State → ℕ → List ℕ → State
closing s start starts = record { marks = map (close_mark start (length s.order)) s.marks; opened = take start s.opened; path = s.path; starts = starts; order = s.order ++ drop start s.opened }

-- a module that a require means is met: a new one is entered, groups are joined at an open one, and a closed one changes nothing
pub data Meets (before after : State) (file : ℕ) : Type 0 where
  new : slice_get before.marks file ≡ Some New → after ≡ entered before file → Meets before after file
  back : (at next : ℕ) (starts : List ℕ) → slice_get before.marks file ≡ Some (Open at next) → Merges at before.starts starts → after ≡ with_starts before starts → Meets before after file
  known : (number : ℕ) → slice_get before.marks file ≡ Some (Closed number) → after ≡ before → Meets before after file

-- a require of an open module is looked at: the module that it means, if any, is met
pub data Follows (before after : State) (file at next : ℕ) (to : Option ℕ) : Type 0 where
  nowhere : to ≡ None → after ≡ advanced before file at next → Follows before after file at next to
  somewhere : (met : ℕ) (between : State) → to ≡ Some met → Meets before between met → after ≡ advanced between file at next → Follows before after file at next to

-- the last number of a list
abbrev pub last_of : List ℕ → Option ℕ
last_of items = slice_get items (length items - 1)

-- the path leaves its last place, and the group is closed if it begins there
pub data Leaves (before after : State) (at : ℕ) : Type 0 where
  inner : (path : List ℕ) → before.path ≡ path ++ at ∷ [] → (last_of before.starts ≡ Some at → ⊥) → after ≡ with_path before path → Leaves before after at
  first : (path starts : List ℕ) → before.path ≡ path ++ at ∷ [] → before.starts ≡ starts ++ at ∷ [] → after ≡ with_path (closing before at starts) path → Leaves before after at

-- how many requires of a module are to be looked at, and two more for one that is new
abbrev pub work_of : ℕ → Mark → ℕ
work_of calls New = calls + 2
work_of calls (Open at next) = calls - next
work_of calls (Closed number) = 0

abbrev pub work_left : List Node → List Mark → ℕ
work_left [] marks = 0
work_left (node ∷ nodes) [] = 0
work_left (node ∷ nodes) (mark ∷ marks) = work_of (length node.calls) mark + work_left nodes marks

-- how many steps a search from a module still takes at most
abbrev pub steps_left : List Node → State → ℕ
steps_left nodes s = work_left nodes s.marks + length s.path

-- what a search begins with
abbrev pub beginning : ℕ → State
beginning count = record { marks = replicate count New; opened = []; path = []; starts = []; order = [] }

-- the number of a closed module
abbrev pub number_of : Mark → ℕ
number_of New = 0
number_of (Open at next) = 0
number_of (Closed number) = number
