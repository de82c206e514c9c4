-- Where an area's numbers and its bits stand. Assumes nothing.
use Rattle.std.proofs.Common.{◌^◌, refl, pow_pos, eq-eqb, eqb-true}
use Rattle.bitmap.specs.Bits.{is_clear}
use Rattle.frames.specs.Areas.{first_word}
use Rattle.rules.specs.Promises.Bitmaps.{AreaLayout, BitmapLayout}
use Rattle.rules.proofs.Divisions.{up_low, up_high}

pub area_layout : AreaLayout
area_layout = record { first = λ numbers i. refl; count = λ numbers i. refl; per_bit = λ numbers i. refl }

pub bitmap_layout : BitmapLayout
unfolding first_word is_clear
bitmap_layout =
    record {
      bits = λ a. refl;
      first = λ areas. refl;
      next = λ areas i. refl;
      enough = λ a count. up_low count (2 ^ a.order_per_bit) (pow_pos a.order_per_bit);
      no_more = λ a count. up_high count (2 ^ a.order_per_bit) (pow_pos a.order_per_bit);
      bit = λ words start j. (eqb-true _ 0, eq-eqb _ 0);
    }
