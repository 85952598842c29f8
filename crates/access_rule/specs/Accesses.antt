-- A touch script: the raw list of its signed words, four a touch: moment, request row, index, value (document 01, "The desk's order of checks").
-- The document's touch is an access here. All is a total function of the script and the touch's number. A negative word reads as a number above every
-- limit (`words`), so a test of an upper limit also refuses it; `GoodScripts` says the rule again in signed numbers and proves that it is the same.
use Rattle.std.specs.Prelude.{ℕ, zero, suc, Bool, true, false, not, ◌&&◌, ◌||◌, List, Option, Some, None, leb, ltb, ℤ}
use Rattle.words.specs.Words.{natural, is_minus_one}
use Rattle.request_table.specs.Table.{rows, word, request}
use Rattle.request_table.specs.declared.Request.{Request}
use Rattle.units.specs.declared.Moment.{Moment}
use Rattle.access_rule.specs.declared.Access.{Access}

-- "At most 4,096 rows.", which document 02, order 5, raises to 16,384.
abbrev pub greatest_accesses : ℕ
greatest_accesses = 16384

-- How many whole touches the script has. A touch is four words, as a request row is.
abbrev pub count : List ℤ → ℕ
count s = rows s

-- What the last word of a touch says: "Value −1 reads", any other is the value that it writes.
abbrev pub write_of : ℤ → Option ℕ
write_of z = elim (is_minus_one z) [ true ↦ None | false ↦ Some (natural z) ]

-- A touch, as the code has it.
unfoldable pub access : List ℤ → ℕ → Access
access s k =
    record {
      moment = record { 0 = natural (word s k 0) };
      row = record { 0 = natural (word s k 1) };
      index = natural (word s k 2);
      write = write_of (word s k 3);
    }

-- The moment of the touch before; before the first there is none, and 0 stands for it.
unfoldable pub moment_before : List ℤ → ℕ → ℕ
moment_before s zero = 0
moment_before s (suc k) = (access s k).moment.0

-- "A row is alive from its first moment to its last, both included."
abbrev pub alive : Request → Moment → Bool
alive x m = leb x.first.0 m.0 && leb m.0 x.last.0

-- Whether a touch reads: it has no value to write.
abbrev pub reads : Access → Bool
reads a = elim a.write [ None ↦ true | Some v ↦ false ]

-- The value that it writes; one that reads has none, and 0 stands for it.
abbrev pub written : Access → ℕ
written a = elim a.write [ None ↦ 0 | Some v ↦ v ]

-- "Value −1 reads, 0 to 255 writes, anything else is bad."
abbrev pub allowed : Access → Bool
allowed a = reads a || leb (written a) 255

-- "it names a request row alive at that moment, 0 ≤ index < size, and the value is allowed".
unfoldable pub reaches : List ℤ → Access → Bool
reaches t a =
    ltb a.row.0 (rows t) && (alive (request t a.row.0) a.moment && (ltb a.index (request t a.row.0).size && allowed a))

-- "A touch is good if its moment is at least the one before", and it reaches a byte so.
unfoldable pub good : List ℤ → List ℤ → ℕ → Bool
good t s k = leb (moment_before s k) (access s k).moment.0 && reaches t (access s k)

-- A bad touch is any other.
abbrev pub bad_access : List ℤ → List ℤ → ℕ → Bool
bad_access t s k = not (good t s k)
