-- Words: which bytes spell which parts.
use Rattle.std.specs.Prelude.{◌≡◌, ℕ, ◌==◌, Bool, true, false, ◌||◌, List, [], ◌∷◌, ◌++◌, take, drop, Option, None, Some, Result, Ok, Err, if◌then◌else◌}
use Rattle.std.specs.List.{prefix_len}
use Rattle.nx_base.specs.TextBytes.{is_word_byte, is_word_start}
use Rattle.nx_shtok.specs.declared.fault.ShKind.{ShKind}
use Rattle.nx_shtok.specs.declared.fault.ShKind.TheVariants.{BadByte, OpenQuote}
use Rattle.nx_shtok.specs.declared.part.Part.{Part}
use Rattle.nx_shtok.specs.declared.part.Part.TheVariants.{Byte, Status, Name}
use Rattle.nx_shtok.specs.declared.piece.Quote.{Quote}
use Rattle.nx_shtok.specs.declared.piece.Quote.TheVariants as quote
use Rattle.nx_shtok.specs.declared.token.Word.{Word}
use Rattle.nx_shtok.specs.Bytes.{is_script_byte, ends_word}

-- A name and what stands after it, if one stands here.
abbrev pub Named : Type 0
Named = Option (List ℕ × List ℕ)

-- The longest name: a letter or "_", then letters, digits and "_".
abbrev pub name_at : List ℕ → Named
name_at [] = None
name_at (b ∷ bs) = if is_word_start b then Some (take (prefix_len is_word_byte (b ∷ bs)) (b ∷ bs), drop (prefix_len is_word_byte (b ∷ bs)) (b ∷ bs)) else None

-- A name counts where "}" stands after it.
abbrev pub closed : List ℕ → List ℕ → Named
closed name [] = None
closed name (b ∷ bs) = if b == 125 then Some (name, bs) else None

-- A name in braces, after its "{".
abbrev pub braced : Named → Named
braced None = None
braced (Some x) = closed x.0 x.1

-- The name after a "$": "NAME" or "{NAME}".
unfoldable pub name_after : List ℕ → Named
name_after [] = None
name_after (b ∷ bs) = if b == 123 then braced (name_at bs) else name_at (b ∷ bs)

-- A "$" without a name is itself.
abbrev pub named : List ℕ → Named → Part × List ℕ
named bytes None = (Byte 36, bytes)
named bytes (Some x) = (Name x.0, x.1)

-- What a "$" stands for, and what stands after that: "$?" is the status, "$NAME" and "${NAME}" are names.
unfoldable pub expansion : List ℕ → Part × List ℕ
expansion [] = (Byte 36, [])
expansion (b ∷ bs) = if b == 63 then (Status, bs) else named (b ∷ bs) (name_after (b ∷ bs))

-- What stands at the front of the rest of a word or a quote: it is over before these bytes, or it has this part, or it is wrong.
pub data Piece : Type 0 where
  Over : List ℕ → Piece
  Gives : Part → Bool → List ℕ → Piece
  Wrong : ShKind → Piece

-- A byte that stands for itself.
abbrev pub itself : Bool → ℕ → List ℕ → Piece
itself quoted b bs = if is_script_byte b then Gives (Byte b) quoted bs else Wrong BadByte

-- After a backslash each next byte stands for itself.
abbrev pub escaped : List ℕ → Piece
escaped [] = Wrong OpenQuote
escaped (b ∷ bs) = itself true b bs

-- After a backslash in double quotes: a quote ends on its line.
abbrev pub escaped_on_the_line : List ℕ → Piece
escaped_on_the_line [] = Wrong OpenQuote
escaped_on_the_line (b ∷ bs) = if b == 10 then Wrong OpenQuote else itself true b bs

-- After a "$".
abbrev pub expanded : Bool → List ℕ → Piece
expanded quoted bytes = Gives (expansion bytes).0 quoted (expansion bytes).1

-- In single quotes each byte stands for itself, up to the quote on the same line.
unfoldable pub single_at : List ℕ → Piece
single_at [] = Wrong OpenQuote
single_at (b ∷ bs) = if b == 39 then Over bs else if b == 10 then Wrong OpenQuote else itself true b bs

-- In double quotes a backslash and "$" mean what they mean outside.
unfoldable pub double_at : List ℕ → Piece
double_at [] = Wrong OpenQuote
double_at (b ∷ bs) =
    if b == 34 then Over bs
    else if b == 10 then Wrong OpenQuote
    else if b == 92 then escaped_on_the_line bs
    else if b == 36 then expanded true bs
    else itself true b bs

-- What stands at the front of the rest of a quote.
abbrev pub quoted_at : Quote → List ℕ → Piece
quoted_at quote.Single bytes = single_at bytes
quoted_at quote.Double bytes = double_at bytes

-- A word outside quotes goes on with a quote, or with a piece.
pub data Front : Type 0 where
  Opens : Quote → List ℕ → Front
  Plain : Piece → Front

-- What stands at the front of the rest of a word.
unfoldable pub front_at : List ℕ → Front
front_at [] = Plain (Over [])
front_at (b ∷ bs) =
    if ends_word b then Plain (Over (b ∷ bs))
    else if b == 39 then Opens quote.Single bs
    else if b == 34 then Opens quote.Double bs
    else if b == 92 then Plain (escaped bs)
    else if b == 36 then Plain (expanded false bs)
    else Plain (itself false b bs)

-- Parts before those of a quote.
abbrev pub quoted_after : List Part → Result (List Part × List ℕ) ShKind → Result (List Part × List ℕ) ShKind
quoted_after ps (Ok x) = Ok (ps ++ x.0, x.1)
quoted_after ps (Err k) = Err k

-- What the rest of a quote comes to: its parts and what stands after it, or a fault.
pub data Quotes (kind : Quote) : List ℕ → Result (List Part × List ℕ) ShKind → Type 0 where
  Closes : (bytes rest : List ℕ) → quoted_at kind bytes ≡ Over rest → Quotes kind bytes (Ok ([], rest))
  Breaks : (bytes : List ℕ) (k : ShKind) → quoted_at kind bytes ≡ Wrong k → Quotes kind bytes (Err k)
  Holds : (bytes : List ℕ) (p : Part) (q : Bool) (rest : List ℕ) (out : Result (List Part × List ℕ) ShKind) → quoted_at kind bytes ≡ Gives p q rest → Quotes kind rest out → Quotes kind bytes (quoted_after (p ∷ []) out)

-- A word and what stands after it; or a fault, and the text from the piece on that has it.
abbrev pub Spelled : Type 0
Spelled = Result (Word × List ℕ) (ShKind × List ℕ)

-- Parts before those of a word, and whether some of it is quoted.
abbrev pub word_after : List Part → Bool → Spelled → Spelled
word_after ps q (Ok x) = Ok (record { parts = ps ++ x.0.parts; quoted = q || x.0.quoted }, x.1)
word_after ps q (Err e) = Err e

-- What the rest of a word comes to. A fault in a quote stands where the quote begins, since a quote has no newline in it.
pub data Spells : List ℕ → Spelled → Type 0 where
  Ends : (bytes rest : List ℕ) → front_at bytes ≡ Plain (Over rest) → Spells bytes (Ok (record { parts = []; quoted = false }, rest))
  Fails : (bytes : List ℕ) (k : ShKind) → front_at bytes ≡ Plain (Wrong k) → Spells bytes (Err (k, bytes))
  Goes : (bytes : List ℕ) (p : Part) (q : Bool) (rest : List ℕ) (out : Spelled) → front_at bytes ≡ Plain (Gives p q rest) → Spells rest out → Spells bytes (word_after (p ∷ []) q out)
  Quoted : (bytes : List ℕ) (kind : Quote) (inner : List ℕ) (ps : List Part) (rest : List ℕ) (out : Spelled) → front_at bytes ≡ Opens kind inner → Quotes kind inner (Ok (ps, rest)) → Spells rest out → Spells bytes (word_after ps true out)
  Open : (bytes : List ℕ) (kind : Quote) (inner : List ℕ) (k : ShKind) → front_at bytes ≡ Opens kind inner → Quotes kind inner (Err k) → Spells bytes (Err (k, bytes))
