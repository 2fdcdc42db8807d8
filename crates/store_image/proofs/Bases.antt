-- The laws of bases that are known before they are read.
use Rattle.std.proofs.Common.{◌≡◌, ℕ, ◌^◌, ◌<◌, eqb, List, [], ◌∷◌, length, refl, sym, ap, subst, arith}
use Rattle.std.specs.List.{AllByRecursion}
use Rattle.std.proofs.lemmas.Bool.{eqb-true, eq-eqb}
use Rattle.byte_fields.specs.Field.{EachFits}
use Rattle.byte_fields.specs.Codec.{Stands, IsCodec}
use Rattle.byte_fields.proofs.Codec.{u32_codec, u64_codec, ruled_codec, here_fault, place_is, found2, fault2, again2, each_codec, counted_codec, codec_for}
use Rattle.file_paths.specs.Path.{FilePath, is_same_path}
use Rattle.tree_values.specs.declared.node.Base.{Base}
use Rattle.tree_values.specs.Spelling.{base, bases, BaseFits}
use Rattle.file_paths.proofs.Parts.{path_codec}
use Rattle.file_paths.proofs.Order.{tied_path, path_tied}
use Rattle.store_image.specs.Reading.{known_base_at, first_kept_base_at, kept_bases_after, known_bases_at}

abbrev pub made : FilePath → ℕ → Base
made path version = record { path = path; version = version }

-- it is the known one, which is spelled
abbrev pub IsKnown : Base → Base → Type 0
IsKnown known b = BaseFits b × (b ≡ known)

pub known_base_codec : (known : Base) → IsCodec (known_base_at known) base (IsKnown known)
unfolding known_base_at
known_base_codec known = record {
  fault = λ bytes at place fits le e. fault2 (ruled_codec (is_same_path known.path) path_codec) (λ _ _. ruled_codec (λ n. eqb n known.version) u64_codec) made bytes at place fits le e;
  found = λ bytes at x next fits le e.
      let r = found2 (ruled_codec (is_same_path known.path) path_codec) (λ _ _. ruled_codec (λ n. eqb n known.version) u64_codec) made bytes at x next fits le e in
      let path : r.first ≡ known.path = sym (tied_path known.path r.first r.first_fits.1) in
      let version : r.second ≡ known.version = eqb-true r.second known.version r.second_fits.1 in
      let is : made r.first r.second ≡ known = λ i. made (path i) (version i) in
      subst (λ (b : Base). Stands bytes at (base b) next × IsKnown known b) r.is (r.stands, ((r.first_fits.0, r.second_fits.0), is));
  again = λ bytes at x next stands fits.
      again2 (ruled_codec (is_same_path known.path) path_codec) (λ _ _. ruled_codec (λ n. eqb n known.version) u64_codec) made bytes at x.path x.version next stands
      (fits.0.0, path_tied known.path x.path (sym (ap (λ (b : Base). b.path) fits.1)))
      (fits.0.1, eq-eqb x.version known.version (ap (λ (b : Base). b.version) fits.1));
}

-- the first of these
unfoldable pub IsFirst : List Base → Base → Type 0
IsFirst [] b = ⊥
IsFirst (known ∷ others) b = IsKnown known b

pub first_base_codec : (known : List Base) → IsCodec (first_kept_base_at known) base (IsFirst known)
unfolding first_kept_base_at IsFirst
first_base_codec [] = record {
  fault = λ bytes at place fits le e. here_fault bytes at place le (place_is (Base × ℕ) at place e);
  found = λ bytes at x next fits le e. absurd cc;
  again = λ bytes at x next stands fits. absurd fits;
}
first_base_codec (known ∷ others) = known_base_codec known

-- they are the known ones, each of which is spelled
abbrev pub AreKnown : List Base → List Base → Type 0
AreKnown known bs = (bs ≡ known) × AllByRecursion BaseFits bs

known_found : (known bs : List Base) → length bs ≡ length known → EachFits IsFirst kept_bases_after known bs → AreKnown known bs
unfolding IsFirst
known_found [] [] len fits = (refl, tt)
known_found [] (b ∷ bs) len fits = absurd (omega arith)
known_found (first ∷ others) [] len fits = absurd (omega arith)
known_found (first ∷ others) (b ∷ bs) len fits =
    let rest = known_found others bs (omega arith) fits.1 in
    ((λ i. fits.0.1 i ∷ rest.0 i), (fits.0.0, rest.1))

pub known_again : (bs : List Base) → AllByRecursion BaseFits bs → EachFits IsFirst kept_bases_after bs bs
unfolding IsFirst
known_again [] fits = tt
known_again (b ∷ bs) fits = ((fits.0, refl), known_again bs fits.1)

pub known_bases_codec : (known : List Base) → length known < 2 ^ 32 → IsCodec (known_bases_at known) bases (AreKnown known)
unfolding known_bases_at
known_bases_codec known lt =
    codec_for (counted_codec length (ruled_codec (λ n. eqb n (length known)) u32_codec) (λ n _. each_codec first_kept_base_at kept_bases_after base IsFirst first_base_codec n known) (λ n bs fits. fits.0))
    (λ bs fits. known_found known bs (eqb-true (length bs) (length known) fits.0.1) fits.1.1)
    (λ bs fits.
    let len : length bs ≡ length known = ap length fits.0 in
    ((rw len lt, eq-eqb (length bs) (length known) len), (refl, subst (λ (k : List Base). EachFits IsFirst kept_bases_after k bs) fits.0 (known_again bs fits.1))))
