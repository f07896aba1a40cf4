-- What a source of files and a sink of bytes tell, and what a read and a put do to it.
use Rattle.std.specs.Prelude.{◌≡◌, ℕ, ◌+◌, ◌-◌, ◌^◌, ◌<◌, ◌≤◌, min, List, [], ◌∷◌, ◌++◌, length, if◌then◌else◌, Option, Some, None, Result, Ok, Err, IsErr, OnErr, IsSomeAnd}
use Rattle.std.specs.Str.{bytes_eq}
use Rattle.nx_outside.specs.declared.files.FileStop.{FileStop}
use Rattle.nx_outside.specs.declared.files.FileStop.TheVariants.{TooLong, Failed, Memory}

-- what a source of files tells: the names with their contents, and the names asked so far
pub record Told : Type 0 where
  pub contents : List (List ℕ × List ℕ)
  pub asked : List (List ℕ)

-- the length in bytes of the longest content that a read hands out
abbrev pub longest : ℕ
longest = 1048576

-- the content under the first entry of the name
abbrev pub content_of : List (List ℕ × List ℕ) → List ℕ → Option (List ℕ)
content_of [] name = None
content_of (e ∷ es) name = if bytes_eq name e.0 then Some e.1 else content_of es name

-- the name has a content, which is longer than a read hands out
abbrev pub IsLong : Told → List ℕ → Type 0
IsLong t name = IsSomeAnd (content_of t.contents name) (λ c. longest < length c)

-- a count of faults rose, or stands at its end
abbrev pub Rose : ℕ → ℕ → Type 0
Rose before now = min (before + 1) (2 ^ 64 - 1) ≤ now

-- these names were asked, in this order; the contents stay, and so does whether they are told
abbrev pub Asked : Option Told → Option Told → List (List ℕ) → Type 0
Asked None None names = Unit {0}
Asked None (Some u) names = ⊥
Asked (Some t) None names = ⊥
Asked (Some t) (Some u) names = (u.contents ≡ t.contents) × (u.asked ≡ t.asked ++ names)

-- a read asks its name; which names were asked is open only when out of memory
abbrev pub Asks : {T : Type 0} → Result T FileStop → Option Told → Option Told → List ℕ → Type 0
Asks (Err Memory) old new name = (names : List (List ℕ)) × Asked old new names
Asks _ old new name = Asked old new (name ∷ [])

-- where the contents are told, a read hands out the name's, and says that it is too long only where it is
abbrev pub HandsOut : {T : Type 0} → Result T FileStop → Option Told → List ℕ → List ℕ → Type 0
HandsOut r None name bytes = Unit {0}
HandsOut (Ok _) (Some t) name bytes = content_of t.contents name ≡ Some bytes
HandsOut (Err TooLong) (Some t) name bytes = IsLong t name
HandsOut (Err _) (Some t) name bytes = Unit {0}

-- where the contents are told, one that is too long is refused
abbrev pub RefusesLong : {T : Type 0} → Result T FileStop → Option Told → List ℕ → Type 0
RefusesLong r None name = Unit {0}
RefusesLong r (Some t) name = IsLong t name → IsErr r

-- the count of faults never falls, and it rose where the read failed
pub record FailedByCause {T : Type 0} (before now : ℕ) (result : Result T FileStop) : Type 0 where
  pub later : before ≤ now
  pub failed : result ≡ Err Failed → Rose before now

-- the count of faults never falls, and it rose where the call erred
pub record HasCause {T E : Type 0} (before now : ℕ) (result : Result T E) : Type 0 where
  pub later : before ≤ now
  pub failed : OnErr result (Rose before now)

-- the bytes begin with this prefix
abbrev pub IsPrefixOf : List ℕ → List ℕ → Type 0
IsPrefixOf prefix bytes = (rest : List ℕ) × (bytes ≡ prefix ++ rest)

-- these bytes were written after those before, and whether they are told stays
abbrev pub Wrote : Option (List ℕ) → Option (List ℕ) → List ℕ → Type 0
Wrote None None bytes = Unit {0}
Wrote None (Some ys) bytes = ⊥
Wrote (Some xs) None bytes = ⊥
Wrote (Some xs) (Some ys) bytes = ys ≡ xs ++ bytes

-- a prefix of the bytes was written
pub record Cut (old new : Option (List ℕ)) (bytes : List ℕ) : Type 0 where
  pub prefix : List ℕ
  pub wrote : Wrote old new prefix
  pub begins : IsPrefixOf prefix bytes

-- a put writes its piece, or a prefix of it where it fails
abbrev pub Puts : {T E : Type 0} → Result T E → Option (List ℕ) → Option (List ℕ) → List ℕ → Type 0
Puts (Ok _) old new piece = Wrote old new piece
Puts (Err _) old new piece = Cut old new piece

-- of all the bytes only the rest is still to be written
pub record Left (old new : Option (List ℕ)) (rest all : List ℕ) : Type 0 where
  pub done : List ℕ
  pub wrote : Wrote old new done
  pub splits : all ≡ done ++ rest
