-- A text taken out of a reader, a reader put together, and a walk taken to a contract that asks nothing.
use mathlib.Core.Path.{◌≡◌}
use Prim.Native.Nat.{ℕ}
use mathlib.Core.List.{List, [], ◌∷◌}
use lib.Dec.{T as Holds}
use lib.ListN.{length}
use seplogic.Ra.Ura.{Ura}
use mir.Syntax.{Fn, named, imm, w8, Ty, Tys, ty_int, ty_ref, tcons, tnil}
use mir.Val.{Val, WT, has_ty}
use base.Logic.{ent, sep, via, fst∗}
use base.Fml.{Lft, Fml}
use prog.Wp.{WpFn, Tables}
use types.Logic.{Logic, sem}
use contract.Lifetimes.{Lfts, Shares, AllOutlive}
use types.Kit.{‵, ◌⊛◌, given, ◌$◌, ◌∵◌, !, qed, by, move, drop, use1, split, learn, fjoin, frame, done}
use sound.WpLaws.{WpFn-mono}
use denote.RattleType.{RattleType, flat}
use denote.Laws.{Is, Are, Ises, Spells, Tellss, Makes, valss}
use denote.Builtin.{u8}
use denote.Ref.{Bor, NamedLft}
use denote.Signature.{types_at}
use denote.Slice.{slice_ty, slice_val, ShrSlice, MutSlice}
use denote.Steps.{nothing, owned}
use denote.Struct.Declared.{Declared}
use denote.Struct.Laws as LL
use denote.Struct.Rest.{all_own, field_own, rest, own_open, own_out, own_shut}
use denote.Struct.Values.{Values}
use denote.Triple.Clauses.{Clauses, Ended, closing}
use denote.Triple.Entry.{Args, on_entry}
use denote.Triple.Spec.{Meets}
use denote.Triple.Walked.{Stays, AllGo, walk_of, walked, walk_Meets}
use Rattle.lexer.specs.declared.Cursor.{Cursor}
use Rattle.reader.specs.declared.Reader.{Reader}
use Rattle.lexer.specs.contracts.Cursor as Cur
use Rattle.lexer.proofs.Cursor.TheLaws as Cur'
use Rattle.reader.specs.contracts.Reader as T
use Rattle.reader.proofs.Reader.TheLaws as T'

-- the lifetime that a reader names: the first of a signature, however many it has
abbrev first : Lft → NamedLft
first κ = record { mir = named 0; lft = κ }

-- the reader's type, its description and its laws
abbrev pub ReaderT : Lft → RattleType
ReaderT κ = T.the_row (first κ)

abbrev pub ReaderD : Lft → Declared
ReaderD κ = T.the_type (first κ)

abbrev pub ReaderL : (κ : Lft) → LL.Laws (ReaderD κ)
ReaderL κ = T'.the_laws (first κ)

abbrev pub TextT : Lft → RattleType
TextT κ = ShrSlice (named 0) κ u8

-- the MIR types of a text and of a reader's fields, which a walk that reads one names to keep its terms small
abbrev pub text_ty : Ty
text_ty = slice_ty (ty_ref (named 0) imm (ty_int w8))

abbrev pub field_tys : Tys
field_tys = tcons text_ty (tcons Cur'.mir tnil)

-- a buffer that is lent beside a text
abbrev pub BufferT : Lft → RattleType
BufferT κ = MutSlice (named 1) κ u8

-- the machine value of a slice
abbrev pub slice : Bor (List ℕ) → Val
slice x = slice_val x.ref_ptr (length x.now)

abbrev pub IsCursor : Cursor → Type 0
IsCursor c = Is Cur.the_row c (Cur'.lowered c ∷ [])

module _ (κ : Lft) (d : Reader) where
  abbrev pub IsReader : Type 0
  IsReader = Is (ReaderT κ) d (T'.lowered d ∷ [])

  pub cursor_of : IsReader → IsCursor d.cursor
  cursor_of is = (LL.owed (ReaderD κ) (ReaderL κ) d _ is).1.0

module _ {M : Type 1} {𝓤 : Ura M} (𝓛 : Logic 𝓤) where
  open 𝓛 use {H}

  pub cursor_typed : (c : Cursor) → IsCursor c → Holds (has_ty Cur'.mir (Cur'.lowered c)) × WT (Cur'.lowered c)
  cursor_typed c is = ((LL.lawful Cur.the_type Cur'.the_laws 𝓛).typed c _ is).0

  pub cursor_made : Makes 𝓛 Cur.the_row (Is Cur.the_row)
  cursor_made = LL.makes Cur.the_type Cur'.the_plain 𝓛

  module _ (κ : Lft) where
    pub reader_typed : (d : Reader) → IsReader κ d → Holds (has_ty (T'.mir (named 0)) (T'.lowered d)) × WT (T'.lowered d)
    reader_typed d is = ((LL.lawful (ReaderD κ) (ReaderL κ) 𝓛).typed d _ is).0

    -- a reader is Copy: what its text owns is had beside what it owns itself
    pub text_out : (d : Reader) → ent 𝓤 (sem 𝓛 ((ReaderT κ).own_val d (T'.lowered d ∷ []))) (sep 𝓤 (sem 𝓛 ((TextT κ).own_val d.text (slice d.text ∷ []))) (sem 𝓛 ((ReaderT κ).own_val d (T'.lowered d ∷ []))))
    text_out d =
        let D : Declared = ReaderD κ in
        let L : LL.Laws D = ReaderL κ in
        let Own : Fml = (ReaderT κ).own_val d (T'.lowered d ∷ []) in
        let vd : Values D.parts = (d.text, (d.cursor, tt)) in
        qed 𝓛 (‵ Own ∷ []) ∵ use1 𝓛 (‵ Own ⊛ ‵ Own) ((LL.copy D (T'.the_copy (first κ)) 𝓛).twice d (T'.lowered d ∷ [])) $ split ! $
        use1 𝓛 (given (T'.lowered d ∷ [] ≡ T'.lowered d ∷ []) (‵ (all_own D.parts L vd))) (own_open 𝓛 D L vd (T'.lowered d)) $ learn ! (λ _.
        use1 𝓛 (‵ (field_own D.parts L 0 d.text) ⊛ ‵ (rest D.parts L 0 vd)) (own_out 𝓛 D.parts L 0 vd) $ split ! $ move ! (1 ∷ []) $ drop ! $ frame ! $ done !)

    -- what a text owns, with a cursor's facts, is what the reader of both owns
    pub put_in : (d : Reader) → IsCursor d.cursor → ent 𝓤 (sem 𝓛 ((TextT κ).own_val d.text (slice d.text ∷ []))) (sem 𝓛 ((ReaderT κ).own_val d (T'.lowered d ∷ [])))
    put_in d is =
        qed 𝓛 (‵ ((TextT κ).own_val d.text (slice d.text ∷ [])) ∷ []) ∵ nothing ! $ owned ! Cur.the_row (Is Cur.the_row) cursor_made d.cursor _ is $ fjoin ! $ move ! (1 ∷ 0 ∷ []) $ fjoin ! $
        by ! (own_shut 𝓛 (ReaderD κ) (ReaderL κ) (d.text, (d.cursor, tt)))

  -- a walk from what the types own at entry, with what the contract requires let go, meets the contract
  module _ (F : Ended) (hs : Stays F.signature.params F.kept) (c : Clauses 𝓤 F) (body : Fn) (𝓣 : Tables 𝓤 H) where
    pub meets : AllGo 𝓛 F.signature.lifetimes F.signature.params F.kept hs → (sp : (κs : Lfts F.signature.lifetimes) → Spells (types_at F.signature.params κs))
        → ((κs : Lfts F.signature.lifetimes) → Tellss (types_at F.signature.params κs) (Ises (types_at F.signature.params κs)) (sp κs))
        → ((κs : Lfts F.signature.lifetimes) (qs : Shares F.signature.lifetimes) (bounds : AllOutlive F.signature.lifetimes F.signature.outlives κs) (a : Args F.signature κs) (g : (c κs a).ghost)
        → Are (types_at F.signature.params κs) (Ises (types_at F.signature.params κs)) a (valss (types_at F.signature.params κs) (sp κs) a)
        → ent 𝓤 (on_entry 𝓛 F.signature κs qs a (valss (types_at F.signature.params κs) (sp κs) a))
        (WpFn 𝓤 H 𝓣.C 𝓣.Λ body (flat (types_at F.signature.params κs) (valss (types_at F.signature.params κs) (sp κs) a)) ((walk_of 𝓛 F hs c).post ((κs, qs, bounds, a, valss (types_at F.signature.params κs) (sp κs) a), g))))
        → Meets 𝓛 F.signature (WpFn 𝓤 H 𝓣.C 𝓣.Λ body) (closing 𝓛 F c)
    meets go sp tl walk =
        walk_Meets 𝓛 F hs go c (WpFn 𝓤 H 𝓣.C 𝓣.Λ body) (WpFn-mono 𝓤 H 𝓛.laws 𝓣 body)
        (walked 𝓛 F hs c (WpFn 𝓤 H 𝓣.C 𝓣.Λ body) sp tl (λ κs qs bounds a g are. via 𝓤 _ (fst∗ 𝓤 _ ((c κs a).requires g)) (walk κs qs bounds a g are)))
