use Rattle.std.proofs.lemmas.Str.{IsUtf8-had}
use Rattle.lq_value.proofs.short_text.ShortText.as_str.Goals as goal

pub from_utf8_unchecked-requires : goal.from_utf8_unchecked-requires
from_utf8_unchecked-requires g c = IsUtf8-had _ c.self.invariant.2
