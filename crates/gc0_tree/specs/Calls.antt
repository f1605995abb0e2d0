-- The library calls by their names: the one table of them.
-- Source: C0 Reference, "Libraries" (conio); `readint` and `moreint` are this project's own.
use Rattle.std.specs.Prelude.{ℕ, Bool, true, false, List, Option, Some, None, if◌then◌else◌, codes}
use Rattle.std.specs.Str.{bytes_eq}
use Rattle.gc0_tree.specs.declared.LibraryCall.{LibraryCall}
use Rattle.gc0_tree.specs.declared.LibraryCall.TheVariants.{PrintInt, PrintBool, Print, PrintLine, ReadInt, MoreInt}

abbrev pub library_name : LibraryCall → List ℕ
library_name PrintInt = codes "printint"
library_name PrintBool = codes "printbool"
library_name Print = codes "print"
library_name PrintLine = codes "println"
library_name ReadInt = codes "readint"
library_name MoreInt = codes "moreint"

-- the call of this name
abbrev pub library_named : List ℕ → Option LibraryCall
library_named name =
    if bytes_eq name (library_name PrintInt) then Some PrintInt
    else if bytes_eq name (library_name PrintBool) then Some PrintBool
    else if bytes_eq name (library_name Print) then Some Print
    else if bytes_eq name (library_name PrintLine) then Some PrintLine
    else if bytes_eq name (library_name ReadInt) then Some ReadInt
    else if bytes_eq name (library_name MoreInt) then Some MoreInt
    else None

-- a call that takes a text
abbrev pub takes_text : LibraryCall → Bool
takes_text PrintInt = false
takes_text PrintBool = false
takes_text Print = true
takes_text PrintLine = true
takes_text ReadInt = false
takes_text MoreInt = false
