-- The edges, computed.
use Rattle.std.specs.Prelude.{◌≡◌, refl, ℕ, ◌+◌, ◌*◌, ◌-◌, ◌^◌, Result, Ok, Err}
use Rattle.lent.specs.Sizes.{span_word, span_offset, span_length}
use Rattle.spans.specs.Conversion.{TooFar, too_far, old_word, in_both, made, from_old, to_old}

unfoldable pub From : ℕ → Result ℕ TooFar → Type 0
unfolding span_word span_offset span_length old_word in_both made
From w o = from_old w ≡ o

unfoldable pub To : ℕ → Result ℕ TooFar → Type 0
unfolding span_word span_offset span_length old_word in_both made
To w o = to_old w ≡ o

-- a word that is not used is converted with the rest
pub from_nothing : From 0 (Ok 0)
unfolding From
from_nothing = refl

-- offset 3, length 5
pub from_small : From 196613 (Ok (3 * 2 ^ 32 + 5))
unfolding From
from_small = refl

pub to_small : To (3 * 2 ^ 32 + 5) (Ok 196613)
unfolding To
to_small = refl

-- both at their most
pub from_most : From (2 ^ 32 - 1) (Ok (65535 * 2 ^ 32 + 65535))
unfolding From
from_most = refl

pub to_most : To (65535 * 2 ^ 32 + 65535) (Ok (2 ^ 32 - 1))
unfolding To
to_most = refl

-- offset 65,536, length 0
pub from_far : From (2 ^ 32) (Err too_far)
unfolding From
from_far = refl

pub from_last : From (2 ^ 64 - 1) (Err too_far)
unfolding From
from_last = refl

pub to_far : To (2 ^ 48) (Err too_far)
unfolding To
to_far = refl

-- length 65,536
pub to_long : To 65536 (Err too_far)
unfolding To
to_long = refl

pub to_both : To (65535 * 2 ^ 32 + 65536) (Err too_far)
unfolding To
to_both = refl
