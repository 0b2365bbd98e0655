-- What roots in memory hold.
use Rattle.std.specs.Prelude.{List, [], ◌∷◌, if◌then◌else◌, true, false, refl}
use Rattle.std.specs.Str.{bytes_eq}
use Rattle.outside.specs.declared.root.Root.{Root}
use Rattle.outside.specs.Contents.{Contents, IsOrdered}

-- the files of the first root of this name; a root that isn't listed is empty
abbrev pub files_of : List Root → Contents
files_of [] name = []
files_of (root ∷ roots) name = if bytes_eq root.name name then root.files else files_of roots name

-- they are in order, as those of each root are
pub files_of-IsOrdered : (roots : List Root) → IsOrdered (files_of roots)
files_of-IsOrdered [] name = refl
files_of-IsOrdered (root ∷ roots) name = elim (bytes_eq root.name name) as (λ same. IsOrdered (λ _. if same then root.files else files_of roots name)) [ true ↦ λ _. root.ordered | false ↦ λ _. files_of-IsOrdered roots name ] name
