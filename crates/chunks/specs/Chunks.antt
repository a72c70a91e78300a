-- app/file_io.rs, `Chunker::chunk_bytes`: a file in chunks.
use Rattle.std.specs.Prelude.{ℕ, zero, suc, List, [], ◌∷◌, length, take, drop}

-- at most n pieces of c bytes, the last one with what is left
unfoldable pub pieces : ℕ → ℕ → List ℕ → List (List ℕ)
pieces zero c file = []
pieces (suc n) c [] = []
pieces (suc n) c (x ∷ file) = take c (x ∷ file) ∷ pieces n c (drop c (x ∷ file))

-- an empty file is one empty chunk
unfoldable pub chunks_of : ℕ → List ℕ → List (List ℕ)
chunks_of c [] = [] ∷ []
chunks_of c (x ∷ file) = pieces (length (x ∷ file)) c (x ∷ file)
