-- What commands of the folder `d` say.
use Rattle.std.specs.Prelude.{ℕ, List, Option, None, Some, codes}
use Rattle.command_words.specs.declared.options.Format.{Format}
use Rattle.command_words.specs.declared.options.Format.TheVariants.{Text}
use Rattle.command_words.specs.Command.{Options, Folder, Sample}

-- a folder or a sample, with no option
abbrev pub folder : List ℕ → Option Options
folder name = Some (record { workers = 4; format = Text; decl = None; source = Folder name })

abbrev pub sample : ℕ → Option Options
sample number = Some (record { workers = 4; format = Text; decl = None; source = Sample number })

-- the folder `d` with one option
abbrev pub with_workers : ℕ → Option Options
with_workers number = Some (record { workers = number; format = Text; decl = None; source = Folder (codes "d") })

abbrev pub with_format : Format → Option Options
with_format format = Some (record { workers = 4; format = format; decl = None; source = Folder (codes "d") })

abbrev pub with_decl : List ℕ → Option Options
with_decl file = Some (record { workers = 4; format = Text; decl = Some file; source = Folder (codes "d") })

-- the folder `d` with all three
abbrev pub with_all : ℕ → Format → List ℕ → Option Options
with_all number format file = Some (record { workers = number; format = format; decl = Some file; source = Folder (codes "d") })
