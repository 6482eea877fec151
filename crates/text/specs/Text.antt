-- Text as bytes. Assumes nothing.
use Rattle.std.specs.Prelude.{List, [], ◌∷◌, ℕ}
use Prim.Native.Char.{code}
use Prim.Native.String.{String, [] as empty, ◌∷◌ as ◌then◌}

-- the bytes of a text whose characters have one byte each
abbrev pub bytes : String → List ℕ
bytes empty = []
bytes (c then s) = code c ∷ bytes s
