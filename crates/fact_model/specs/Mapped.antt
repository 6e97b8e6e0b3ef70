-- Facts with other keys and values.
use Rattle.fact_model.specs.Facts.{Fact, Put, Del, DelRange, Version}
use Rattle.fact_model.specs.Scans.{Item}

-- keys mapped by f, values by w
abbrev pub map_fact : {K L V W : Type 0} → (K → L) → (V → W) → Fact K V → Fact L W
map_fact f w (Put k v at) = Put (f k) (w v) at
map_fact f w (Del k at) = Del (f k) at
map_fact f w (DelRange lo hi at) = DelRange (f lo) (f hi) at

abbrev pub map_version : {V W : Type 0} → (V → W) → Version V → Version W
map_version w v = record { value = w v.value; at = v.at }

abbrev pub map_item : {K L V W : Type 0} → (K → L) → (V → W) → Item K V → Item L W
map_item f w i = record { key = f i.key; value = w i.value; at = i.at }

-- a fact's keys meet P
abbrev pub KeysMeet : {K V : Type 0} → (K → Type 0) → Fact K V → Type 0
KeysMeet P (Put k v at) = P k
KeysMeet P (Del k at) = P k
KeysMeet P (DelRange lo hi at) = P lo × P hi
