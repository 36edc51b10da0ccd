-- Texts as they print.
use Rattle.std.specs.Prelude.{ℕ, List, [], ◌∷◌, ◌++◌}
use Prim.Native.Char.{code}
use Prim.Native.String.{String, [] as nothing, ◌∷◌ as ◌before◌}
use Rattle.utf8.specs.Utf8.{text}

-- the characters of a text, as code points
abbrev pub characters : String → List ℕ
characters nothing = []
characters (c before s) = code c ∷ characters s

-- in UTF-8
abbrev pub printed : String → List ℕ
printed s = text (characters s)

-- lines, a line feed behind each
abbrev pub page : List String → List ℕ
page [] = []
page (line ∷ lines) = printed line ++ 10 ∷ page lines
