-- Records computed.
use Rattle.std.specs.Prelude.{◌≡◌, refl, List, [], ◌∷◌, ℕ}
use Rattle.ascii.specs.Text.{bytes}
use Rattle.lent.specs.Sizes.{span_word, span_offset, span_length}
use Rattle.records.specs.Actions.{absent, present}
use Rattle.records.specs.Codes.{shapes, shape_of}
use Rattle.records.specs.Marks.{marks_for, marks_of, known, spans_by, spans_of, span_end, inside, inside_all, cut}
use Rattle.records.specs.Decoding.{Decoded, none, shows, action_in, decoded}

unfoldable pub Shows : List ℕ → List ℕ → Decoded → Type 0
unfolding span_word span_offset span_length shapes shape_of marks_for marks_of known spans_by spans_of span_end inside inside_all cut action_in decoded bytes
Shows text words d = decoded text words ≡ d

pub no_code : Shows [] (0 ∷ 0 ∷ 0 ∷ 0 ∷ 0 ∷ 0 ∷ []) none
unfolding Shows
no_code = refl

pub past_codes : Shows [] (33 ∷ 0 ∷ 0 ∷ 0 ∷ 0 ∷ 0 ∷ []) none
unfolding Shows
past_codes = refl

pub deny : Shows [] (1 ∷ 5 ∷ 6 ∷ 7 ∷ 8 ∷ 9 ∷ []) (shows (record { code = 1; number = 5; a = absent; b = absent; kind = 8; c = absent }))
unfolding Shows
deny = refl

pub setvar_string : Shows (bytes "txab1") (22 ∷ 0 ∷ span_word 0 2 ∷ span_word 2 2 ∷ 1 ∷ span_word 4 1 ∷ []) (shows (record { code = 22; number = 0; a = present (bytes "tx"); b = present (bytes "ab"); kind = 1; c = present (bytes "1") }))
unfolding Shows
setvar_string = refl

pub setvar_int : Shows (bytes "txab") (22 ∷ 7 ∷ span_word 0 2 ∷ span_word 2 2 ∷ 2 ∷ span_word 90 9 ∷ []) (shows (record { code = 22; number = 7; a = present (bytes "tx"); b = present (bytes "ab"); kind = 2; c = absent }))
unfolding Shows
setvar_int = refl

pub setvar_no_kind : Shows (bytes "txab") (22 ∷ 7 ∷ span_word 0 2 ∷ span_word 2 2 ∷ 7 ∷ 0 ∷ []) none
unfolding Shows
setvar_no_kind = refl

pub empty_at_end : Shows (bytes "ab") (14 ∷ 0 ∷ span_word 2 0 ∷ 0 ∷ 0 ∷ 0 ∷ []) (shows (record { code = 14; number = 0; a = present []; b = absent; kind = 0; c = absent }))
unfolding Shows
empty_at_end = refl

pub empty_past_end : Shows (bytes "ab") (14 ∷ 0 ∷ span_word 3 0 ∷ 0 ∷ 0 ∷ 0 ∷ []) none
unfolding Shows
empty_past_end = refl
