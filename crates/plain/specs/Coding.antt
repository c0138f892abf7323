-- The table as the source has it: states, columnDigits and cells as numbers.
use Rattle.std.specs.Prelude.{ℕ, ◌+◌, ◌*◌, ◌/◌, ◌%◌, Bool, List, [], ◌∷◌, eqb, ltb}
use Rattle.ascii.specs.Choice.{pick, bit}
use Rattle.lexer.specs.declared.Kind.{Kind}
use Rattle.lexer.specs.declared.Kind.TheVariants.{QuotedString, Comment}
use Rattle.lexer.specs.Tokens.{word_kind}
use Rattle.plain.specs.Table.{State, S, SB, SC, W, WB, WC, K, D, DB, DC, DM, Q, QB, QC, QM, Class, feed, return, blank, stop, slash, double, single, hash, letter, other, over, Ends, stays, here, earlier, with_it, Joins, nothing, itself, control, Next, goes, halts, Cell}

-- A state's number: the place of the first cell of its row.
abbrev pub code : State → ℕ
code S = 0
code SB = 11
code SC = 22
code W = 33
code WB = 44
code WC = 55
code K = 66
code D = 77
code DB = 88
code DC = 99
code DM = 110
code Q = 121
code QB = 132
code QC = 143
code QM = 154

-- A classOf's column.
abbrev pub class_code : Class → ℕ
class_code feed = 0
class_code return = 1
class_code blank = 2
class_code stop = 3
class_code slash = 4
class_code double = 5
class_code single = 6
class_code hash = 7
class_code letter = 8
class_code other = 9
class_code over = 10

abbrev pub ends_code : Ends → ℕ
ends_code stays = 0
ends_code here = 1
ends_code earlier = 2
ends_code with_it = 3

abbrev pub joins_code : Joins → ℕ
joins_code nothing = 0
joins_code itself = 1
joins_code control = 2

-- Reading stops: no row's number has so many.
abbrev pub next_code : Next → ℕ
next_code (goes q) = code q
next_code halts = 32768

-- A cell as one number.
abbrev pub encode : Cell → ℕ
encode x =
    next_code x.next + 256 * joins_code x.joins + 1024 * bit x.keeps + 2048 * ends_code x.ends + 8192 * bit x.feeds + 16384 * bit x.begins

-- And its acts, read off the number again.
abbrev pub keeps_in : ℕ → Bool
keeps_in n = eqb (n / 1024 % 2) 1

abbrev pub ends_by : ℕ → Ends
ends_by n = pick (eqb n 0) stays (pick (eqb n 1) here (pick (eqb n 2) earlier with_it))

abbrev pub ends_in : ℕ → Ends
ends_in n = ends_by (n / 2048 % 4)

abbrev pub feeds_in : ℕ → Bool
feeds_in n = eqb (n / 8192 % 2) 1

abbrev pub begins_in : ℕ → Bool
begins_in n = eqb (n / 16384 % 2) 1

abbrev pub joins_by : ℕ → Joins
joins_by n = pick (eqb n 0) nothing (pick (eqb n 1) itself control)

abbrev pub joins_in : ℕ → Joins
joins_in n = joins_by (n / 256 % 4)

-- The kind of the token that is open in the state of a number.
abbrev pub kind_by : ℕ → Bool → List ℕ → Kind
kind_by n mark t = pick (ltb n 66) (word_kind mark t) (pick (eqb n 66) Comment QuotedString)

-- The source's lists: the column of each byte, as a digit; and the cells, row by row.
unfoldable pub column_digits : List ℕ
column_digits = 57 ∷ 57 ∷ 57 ∷ 57 ∷ 57 ∷ 57 ∷ 57 ∷ 57 ∷ 57 ∷ 50 ∷ 48 ∷ 51 ∷ 51 ∷ 49 ∷ 57 ∷ 57 ∷ 57 ∷ 57 ∷ 57 ∷ 57 ∷ 57 ∷ 57 ∷ 57 ∷ 57 ∷ 57 ∷ 57 ∷ 57 ∷ 57 ∷ 57 ∷ 57 ∷ 57 ∷ 57 ∷ 50 ∷ 57 ∷ 53 ∷ 55 ∷ 57 ∷ 57 ∷ 57 ∷ 54 ∷ 57 ∷ 57 ∷ 57 ∷ 57 ∷ 57 ∷ 57 ∷ 57 ∷ 57 ∷ 57 ∷ 57 ∷ 57 ∷ 57 ∷ 57 ∷ 57 ∷ 57 ∷ 57 ∷ 57 ∷ 57 ∷ 57 ∷ 57 ∷ 57 ∷ 57 ∷ 57 ∷ 57 ∷ 57 ∷ 57 ∷ 57 ∷ 57 ∷ 57 ∷ 57 ∷ 57 ∷ 57 ∷ 57 ∷ 57 ∷ 57 ∷ 57 ∷ 57 ∷ 57 ∷ 57 ∷ 57 ∷ 57 ∷ 57 ∷ 57 ∷ 57 ∷ 57 ∷ 57 ∷ 57 ∷ 57 ∷ 57 ∷ 57 ∷ 57 ∷ 57 ∷ 52 ∷ 57 ∷ 57 ∷ 57 ∷ 57 ∷ 57 ∷ 57 ∷ 57 ∷ 57 ∷ 57 ∷ 57 ∷ 57 ∷ 57 ∷ 57 ∷ 57 ∷ 57 ∷ 57 ∷ 57 ∷ 56 ∷ 57 ∷ 57 ∷ 57 ∷ 56 ∷ 57 ∷ 56 ∷ 57 ∷ 57 ∷ 57 ∷ 57 ∷ 57 ∷ 57 ∷ 57 ∷ 57 ∷ 57 ∷ 57 ∷ 57 ∷ 57 ∷ 57 ∷ 57 ∷ 57 ∷ 57 ∷ 57 ∷ 57 ∷ 57 ∷ 57 ∷ 57 ∷ 57 ∷ 57 ∷ 57 ∷ 57 ∷ 57 ∷ 57 ∷ 57 ∷ 57 ∷ 57 ∷ 57 ∷ 57 ∷ 57 ∷ 57 ∷ 57 ∷ 57 ∷ 57 ∷ 57 ∷ 57 ∷ 57 ∷ 57 ∷ 57 ∷ 57 ∷ 57 ∷ 57 ∷ 57 ∷ 57 ∷ 57 ∷ 57 ∷ 57 ∷ 57 ∷ 57 ∷ 57 ∷ 57 ∷ 57 ∷ 57 ∷ 57 ∷ 57 ∷ 57 ∷ 57 ∷ 57 ∷ 57 ∷ 57 ∷ 57 ∷ 57 ∷ 57 ∷ 57 ∷ 57 ∷ 57 ∷ 57 ∷ 57 ∷ 57 ∷ 57 ∷ 57 ∷ 57 ∷ 57 ∷ 57 ∷ 57 ∷ 57 ∷ 57 ∷ 57 ∷ 57 ∷ 57 ∷ 57 ∷ 57 ∷ 57 ∷ 57 ∷ 57 ∷ 57 ∷ 57 ∷ 57 ∷ 57 ∷ 57 ∷ 57 ∷ 57 ∷ 57 ∷ 57 ∷ 57 ∷ 57 ∷ 57 ∷ 57 ∷ 57 ∷ 57 ∷ 57 ∷ 57 ∷ 57 ∷ 57 ∷ 57 ∷ 57 ∷ 57 ∷ 57 ∷ 57 ∷ 57 ∷ 57 ∷ 57 ∷ 57 ∷ 57 ∷ 57 ∷ 57 ∷ 57 ∷ 57 ∷ 57 ∷ 57 ∷ 57 ∷ 57 ∷ 57 ∷ 57 ∷ 57 ∷ 57 ∷ 57 ∷ 57 ∷ 57 ∷ 57 ∷ 57 ∷ 57 ∷ 57 ∷ 57 ∷ 57 ∷ 57 ∷ []

unfoldable pub cell_numbers : List ℕ
cell_numbers = 8192 ∷ 0 ∷ 0 ∷ 32768 ∷ 11 ∷ 16461 ∷ 16505 ∷ 16450 ∷ 16673 ∷ 16673 ∷ 32768 ∷ 0 ∷ 22 ∷ 0 ∷ 32768 ∷ 11 ∷ 16461 ∷ 16505 ∷ 16450 ∷ 16673 ∷ 16673 ∷ 32768 ∷ 0 ∷ 0 ∷ 0 ∷ 32768 ∷ 11 ∷ 16461 ∷ 16505 ∷ 16450 ∷ 16673 ∷ 16673 ∷ 32768 ∷ 10240 ∷ 2048 ∷ 2048 ∷ 34816 ∷ 44 ∷ 18509 ∷ 18553 ∷ 18498 ∷ 289 ∷ 289 ∷ 34816 ∷ 33 ∷ 55 ∷ 3072 ∷ 35840 ∷ 1068 ∷ 19533 ∷ 19577 ∷ 19522 ∷ 1313 ∷ 1313 ∷ 35840 ∷ 33 ∷ 5120 ∷ 5120 ∷ 37888 ∷ 5131 ∷ 21581 ∷ 21625 ∷ 21570 ∷ 21793 ∷ 21793 ∷ 37888 ∷ 6144 ∷ 66 ∷ 66 ∷ 66 ∷ 66 ∷ 66 ∷ 66 ∷ 66 ∷ 66 ∷ 66 ∷ 34816 ∷ 333 ∷ 333 ∷ 333 ∷ 333 ∷ 88 ∷ 6144 ∷ 333 ∷ 333 ∷ 333 ∷ 333 ∷ 34816 ∷ 110 ∷ 99 ∷ 1357 ∷ 1357 ∷ 333 ∷ 333 ∷ 333 ∷ 1357 ∷ 589 ∷ 1357 ∷ 34816 ∷ 110 ∷ 333 ∷ 110 ∷ 333 ∷ 88 ∷ 6144 ∷ 333 ∷ 333 ∷ 333 ∷ 333 ∷ 34816 ∷ 333 ∷ 333 ∷ 110 ∷ 333 ∷ 88 ∷ 6144 ∷ 333 ∷ 333 ∷ 333 ∷ 333 ∷ 34816 ∷ 377 ∷ 377 ∷ 377 ∷ 377 ∷ 132 ∷ 377 ∷ 6144 ∷ 377 ∷ 377 ∷ 377 ∷ 34816 ∷ 154 ∷ 143 ∷ 1401 ∷ 1401 ∷ 377 ∷ 377 ∷ 377 ∷ 1401 ∷ 633 ∷ 1401 ∷ 34816 ∷ 154 ∷ 377 ∷ 154 ∷ 377 ∷ 132 ∷ 377 ∷ 6144 ∷ 377 ∷ 377 ∷ 377 ∷ 34816 ∷ 377 ∷ 377 ∷ 154 ∷ 377 ∷ 132 ∷ 377 ∷ 6144 ∷ 377 ∷ 377 ∷ 377 ∷ 34816 ∷ []
