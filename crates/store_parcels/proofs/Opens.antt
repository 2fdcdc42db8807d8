-- What is packed opens.
use Rattle.std.proofs.Common.{◌≡◌, ℕ, ◌+◌, ◌-◌, ◌^◌, ◌<◌, ◌≤◌, true, List, [], ◌∷◌, ◌++◌, length, take, drop, get_or, Ok, refl, sym, ap, ◌∙◌, arith, length-append, length-drop, append_assoc}
use Rattle.std.specs.Prelude.{Option, Some, slice_get}
use Rattle.std.specs.Int.{w32, w64, from_be_bytes}
use Rattle.std.specs.List.{All}
use Rattle.std.specs.Option.{option_map, option_and_then}
use Rattle.std.specs.Str.{bytes_eq}
use Rattle.std.proofs.lemmas.List.{take_at, drop_at, drop-drop}
use Rattle.std.proofs.lemmas.Nat.{from_be_bytes-to_be_bytes_4, from_be_bytes-to_be_bytes_8}
use Rattle.std.proofs.lemmas.Slice.Eq.{bytes_eq-Decides}
use Rattle.sha2.specs.Sha256.{sha256}
use Rattle.sha2.proofs.Facts256.{length-sha256}
use Rattle.byte_fields.specs.Field.{digits}
use Rattle.byte_fields.specs.Codec.{Stands}
use Rattle.byte_fields.proofs.Facts.{four_bytes, and_holds, le_holds}
use Rattle.file_paths.specs.Path.{FilePath}
use Rattle.tree_values.specs.Limits.{max_files}
use Rattle.tree_values.specs.Tree.{Volume}
use Rattle.wire_frames.specs.Limits.{max_frame}
use Rattle.wire_frames.specs.Head.{head_at}
use Rattle.wire_frames.specs.Reading.{is_sized}
use Rattle.wire_frames.proofs.Frames.{IsSized, are_sized}
use Rattle.delta_pieces.specs.declared.pieces.Step.{Step}
use Rattle.delta_pieces.specs.declared.pieces.Pieces.{Pieces}
use Rattle.delta_pieces.specs.Making.{expanded, at_start, StandFor, HasCount}
use Rattle.short_numbers.specs.Numbers.{number_spelled, first_number}
use Rattle.short_numbers.proofs.Reading.{numbers_are_read}
use Rattle.step_spelling.specs.Spelling.{steps_spelled, each_spelled, HaveSpelling, at_start as start_of}
use Rattle.step_spelling.specs.Reading.{steps_read}
use Rattle.step_spelling.specs.Laws.{StepsAreRead, FoundStepsHaveASpelling}
use Rattle.store_parcels.specs.declared.front.NamedStore.{NamedStore}
use Rattle.store_parcels.specs.declared.front.Front.{Front}
use Rattle.store_parcels.specs.Limits.{max_steps}
use Rattle.store_parcels.specs.Front.{is_parcel, sources, named_store, front_at, front_of}
use Rattle.store_parcels.specs.Opening.{file_at, joined, known_in, made_of, is_head_of, is_frame_of, opened_behind, opened, few_told, tells_few, few as few_of}
use Rattle.store_parcels.specs.Packing.{payload, parcel, HasFilesOf, OpensTo}
use Rattle.store_parcels.proofs.Fronts.{SourcesFit, front_is_read}

-- ---- the head

-- a store whose fields fit their types
pub record StoreFits (s : NamedStore) : Type 0 where
  pub client : s.client < 2 ^ 8
  pub number : s.number < 2 ^ 64
  pub entries : s.entries < 2 ^ 8

four_again : (n : ℕ) → n < 2 ^ 32 → from_be_bytes w32 (digits w32 n) ≡ n
unfolding digits
four_again n small = from_be_bytes-to_be_bytes_4 n small

eight_again : (n : ℕ) → n < 2 ^ 64 → from_be_bytes w64 (digits w64 n) ≡ n
unfolding digits
eight_again n small = from_be_bytes-to_be_bytes_8 n small

named_by : (bytes : List ℕ) (s : NamedStore) → is_parcel bytes ≡ true → slice_get bytes 15 ≡ Some s.entries → get_or bytes 6 0 ≡ s.client
    → take 8 (drop 7 bytes) ≡ digits w64 s.number → s.number < 2 ^ 64 → named_store bytes ≡ Some s
named_by bytes s is entries client number small = rw (is, entries, client, number, eight_again s.number small) refl

parcel_by : (bytes : List ℕ) → is_sized bytes ≡ true → get_or bytes 4 0 ≡ 3 → get_or bytes 5 0 ≡ 5 → is_parcel bytes ≡ true
parcel_by bytes sized version kind = rw (sized, version, kind) refl

parcel_length : (f : Front) (known : ℕ) (steps : List Step) (fresh : List ℕ)
    → length (parcel f known steps fresh) ≡ 4 + length (payload f known steps fresh)
parcel_length f known steps fresh =
    let p : List ℕ = payload f known steps fresh in
    omega (arith, length-append (digits w32 (length p)) p, four_bytes (length p))

long_enough : (f : Front) (known : ℕ) (steps : List Step) (fresh : List ℕ) → 16 ≤ length (parcel f known steps fresh)
unfolding digits
long_enough f known steps fresh = omega arith

version_is : (f : Front) (known : ℕ) (steps : List Step) (fresh : List ℕ) → get_or (parcel f known steps fresh) 4 0 ≡ 3
unfolding digits
version_is f known steps fresh = refl

kind_is : (f : Front) (known : ℕ) (steps : List Step) (fresh : List ℕ) → get_or (parcel f known steps fresh) 5 0 ≡ 5
unfolding digits
kind_is f known steps fresh = refl

client_is : (f : Front) (known : ℕ) (steps : List Step) (fresh : List ℕ) → get_or (parcel f known steps fresh) 6 0 ≡ f.store.client
unfolding digits
client_is f known steps fresh = refl

number_is : (f : Front) (known : ℕ) (steps : List Step) (fresh : List ℕ) → take 8 (drop 7 (parcel f known steps fresh)) ≡ digits w64 f.store.number
unfolding digits
number_is f known steps fresh = refl

entries_are : (f : Front) (known : ℕ) (steps : List Step) (fresh : List ℕ) → slice_get (parcel f known steps fresh) 15 ≡ Some f.store.entries
unfolding digits
entries_are f known steps fresh = refl

-- what stands behind the store
behind_store : (f : Front) (known : ℕ) (steps : List Step) (fresh : List ℕ)
    → drop 16 (parcel f known steps fresh) ≡ (f.print ++ sources f.sources) ++ (steps_spelled known steps ++ fresh)
unfolding digits
behind_store f known steps fresh = refl

is_a_parcel : (f : Front) (known : ℕ) (steps : List Step) (fresh : List ℕ) → length (parcel f known steps fresh) ≤ max_frame
    → is_parcel (parcel f known steps fresh) ≡ true
is_a_parcel f known steps fresh small =
    let p : List ℕ = payload f known steps fresh in
    let bytes : List ℕ = parcel f known steps fresh in
    let size : length bytes ≡ 4 + length p = parcel_length f known steps fresh in
    let front : take 4 bytes ≡ digits w32 (length p) = take_at (digits w32 (length p)) p 4 (four_bytes (length p)) in
    let told : from_be_bytes w32 (take 4 bytes) ≡ length p = ap (from_be_bytes w32) front ∙ four_again (length p) (omega (arith, size, small)) in
    let are : IsSized bytes = record { low = omega (arith, long_enough f known steps fresh); high = small; told = omega (arith, told, size) } in
    parcel_by bytes (are_sized bytes are) (version_is f known steps fresh) (kind_is f known steps fresh)

-- ---- the front

-- where the text stands behind the store, and what stands behind the text
record Behind (bytes text tail : List ℕ) : Type 0 where
  stands : Stands bytes 16 text (16 + length text)
  left : drop (16 + length text) bytes ≡ tail

behind : (bytes text tail : List ℕ) → 16 ≤ length bytes → drop 16 bytes ≡ text ++ tail → Behind bytes text tail
behind bytes text tail long e =
    let left : drop (16 + length text) bytes ≡ tail = sym (drop-drop (length text) 16 bytes) ∙ (ap (drop (length text)) e ∙ drop_at text tail (length text) refl) in
    let size : length (drop 16 bytes) ≡ length text + length tail = ap length e ∙ length-append text tail in
    record {
      stands = record {
        here = e ∙ ap (λ (rest : List ℕ). text ++ rest) (sym left);
        next_is = refl;
        within = omega (arith, size, length-drop 16 bytes, long);
      };
      left = left;
    }

-- ---- a parcel opens

few_are_told : (known : ℕ) (steps : List Step) (fresh : List ℕ) → length steps ≤ max_steps → tells_few (steps_spelled known steps ++ fresh) ≡ true
few_are_told known steps fresh few =
    let rest : List ℕ = each_spelled (start_of known) steps ++ fresh in
    let text : steps_spelled known steps ++ fresh ≡ number_spelled (length steps) ++ rest =
    append_assoc (number_spelled (length steps)) (each_spelled (start_of known) steps) fresh in
    let told : first_number (number_spelled (length steps) ++ rest) ≡ Some (length steps, rest) = numbers_are_read (length steps) rest (omega (arith, few)) in
    ap tells_few text ∙ (ap few_told told ∙ le_holds (length steps) max_steps few)

front_from : (bytes : List ℕ) (store : NamedStore) (f : Front) (next : ℕ) → named_store bytes ≡ Some store → front_at store bytes 16 ≡ Ok (f, next)
    → front_of bytes ≡ Some (f, next)
front_from bytes store f next named read = rw (named, read) refl

made_from : (known rest plain : List ℕ) (steps : List Step) (fresh : List ℕ) → tells_few rest ≡ true → steps_read (length known) rest ≡ Some (steps, fresh)
    → expanded (length known + max_frame) 0 steps (at_start known fresh) ≡ Ok (known ++ plain) → made_of known rest ≡ Some plain
made_from known rest plain steps fresh tells read makes = rw (tells, read, makes) (ap Some (drop_at known plain (length known) refl))

opened_from : (volume : Volume) (bytes rest known plain : List ℕ) (f : Front) (next : ℕ) → front_of bytes ≡ Some (f, next) → drop next bytes ≡ rest
    → known_in volume f.sources ≡ Some known → made_of known rest ≡ Some plain → is_frame_of f plain ≡ true → opened volume bytes ≡ Some plain
opened_from volume bytes rest known plain f next read left known_is makes is =
    let behind : opened_behind volume f rest ≡ Some plain = rw (known_is, makes, is) refl in
    let there : opened volume bytes ≡ opened_behind volume f (drop next bytes) = ap (option_and_then (λ x. opened_behind volume x.0 (drop x.1 bytes))) read in
    there ∙ (ap (opened_behind volume f) left ∙ behind)

pub parcel_opens : StepsAreRead → (volume : Volume) (f : Front) (known plain : List ℕ) (pieces : Pieces) → StoreFits f.store → length f.print ≡ 32
    → SourcesFit f.sources → known_in volume f.sources ≡ Some known → HaveSpelling (length known) pieces.steps.items → StandFor known plain pieces
    → length plain ≤ max_frame → is_frame_of f plain ≡ true
    → length (parcel f (length known) pieces.steps.items pieces.fresh.items) ≤ max_frame
    → length pieces.steps.items ≤ max_steps → opened volume (parcel f (length known) pieces.steps.items pieces.fresh.items) ≡ Some plain
parcel_opens steps_are_read volume f known plain pieces store_fits print_long sources_fit known_is spelled stand few is small few_steps =
    let steps : List Step = pieces.steps.items in
    let fresh : List ℕ = pieces.fresh.items in
    let bytes : List ℕ = parcel f (length known) steps fresh in
    let text : List ℕ = f.print ++ sources f.sources in
    let named : named_store bytes ≡ Some f.store =
    named_by bytes f.store (is_a_parcel f (length known) steps fresh small) (entries_are f (length known) steps fresh) (client_is f (length known) steps fresh)
    (number_is f (length known) steps fresh) store_fits.number in
    let b : Behind bytes text (steps_spelled (length known) steps ++ fresh) =
    behind bytes text (steps_spelled (length known) steps ++ fresh) (long_enough f (length known) steps fresh) (behind_store f (length known) steps fresh) in
    let read : front_at f.store bytes 16 ≡ Ok (f, 16 + length text) =
    front_is_read f.store bytes 16 f.print f.sources (16 + length text) b.stands print_long sources_fit in
    let fronted : front_of bytes ≡ Some (f, 16 + length text) = front_from bytes f.store f (16 + length text) named read in
    let stepped : steps_read (length known) (steps_spelled (length known) steps ++ fresh) ≡ Some (steps, fresh) =
    steps_are_read (length known) steps fresh spelled in
    let made : expanded (length known + max_frame) 0 steps (at_start known fresh) ≡ Ok (known ++ plain) = stand max_frame few in
    let makes : made_of known (steps_spelled (length known) steps ++ fresh) ≡ Some plain =
    made_from known (steps_spelled (length known) steps ++ fresh) plain steps fresh (few_are_told (length known) steps fresh few_steps) stepped made in
    opened_from volume bytes (steps_spelled (length known) steps ++ fresh) known plain f (16 + length text) fronted b.left known_is makes is

-- ---- over volumes with the same files

joined_alike : (volume other : Volume) (paths : List FilePath) → HasFilesOf volume paths other → joined other paths ≡ joined volume paths
joined_alike volume other [] alike = refl
joined_alike volume other (path ∷ paths) alike =
    ap (λ (o : Option (List ℕ)). option_and_then (λ content. option_map (λ others. content ++ others) (joined other paths)) o) alike.0
    ∙ ap (λ (o : Option (List ℕ)). option_and_then (λ content. option_map (λ others. content ++ others) o) (file_at volume path)) (joined_alike volume other paths alike.1)

-- setting the length keeps it
pub set_keeps : (p old new : List ℕ) → old ≡ digits w32 0 ++ p → new ≡ digits w32 (length old - 4) ++ drop 4 old → length new ≡ length old
set_keeps p old new begun set =
    let long : length old ≡ 4 + length p = omega (arith, ap length begun, length-append (digits w32 0) p, four_bytes 0) in
    omega (arith, ap length set, length-append (digits w32 (length old - 4)) (drop 4 old), four_bytes (length old - 4), length-drop 4 old, long)

-- the length is set
length_is_set : (p old new : List ℕ) → old ≡ digits w32 0 ++ p → new ≡ digits w32 (length old - 4) ++ drop 4 old → new ≡ digits w32 (length p) ++ p
length_is_set p old new begun set =
    let size : length old - 4 ≡ length p = omega (arith, ap length begun, length-append (digits w32 0) p, four_bytes 0) in
    let rest : drop 4 old ≡ p = ap (drop 4) begun ∙ drop_at (digits w32 0) p 4 (four_bytes 0) in
    set ∙ (ap (λ (n : ℕ). digits w32 n ++ drop 4 old) size ∙ ap (λ (l : List ℕ). digits w32 (length p) ++ l) rest)

packed_opens : StepsAreRead → FoundStepsHaveASpelling → (volume : Volume) (store : NamedStore) (paths : List FilePath) (known plain old new : List ℕ) (pieces : Pieces)
    → StoreFits store → SourcesFit paths → known_in volume paths ≡ Some known → length known ≤ max_files
    → StandFor known plain pieces → All HasCount pieces.steps.items → length pieces.steps.items ≤ max_steps → length plain ≤ max_frame → is_head_of store (head_at plain) ≡ true
    → old ≡ digits w32 0 ++ payload (record { store = store; print = sha256 plain; sources = paths }) (length known) pieces.steps.items pieces.fresh.items
    → length old < length plain → new ≡ digits w32 (length old - 4) ++ drop 4 old → OpensTo volume paths new plain
packed_opens steps_are_read have_spelling volume store paths known plain old new pieces store_fits paths_fit known_is few stand counts few_steps small told begun shorter set other alike =
    let f : Front = record { store = store; print = sha256 plain; sources = paths } in
    let steps : List Step = pieces.steps.items in
    let fresh : List ℕ = pieces.fresh.items in
    let p : List ℕ = payload f (length known) steps fresh in
    let new_is : new ≡ parcel f (length known) steps fresh = length_is_set p old new begun set in
    let spelled : HaveSpelling (length known) steps = have_spelling known plain pieces (omega arith) stand counts in
    let there : known_in other paths ≡ Some known = ap (option_and_then few_of) (joined_alike volume other paths alike) ∙ known_is in
    let printed : bytes_eq (sha256 plain) (sha256 plain) ≡ true = (bytes_eq-Decides (sha256 plain) (sha256 plain)).1 refl in
    let is : is_frame_of f plain ≡ true = and_holds (bytes_eq (sha256 plain) (sha256 plain)) (is_head_of store (head_at plain)) printed told in
    let within : length (parcel f (length known) steps fresh) ≤ max_frame =
    omega (arith, parcel_length f (length known) steps fresh, ap length begun, length-append (digits w32 0) p, four_bytes 0) in
    ap (opened other) new_is
    ∙ parcel_opens steps_are_read other f known plain pieces store_fits (length-sha256 plain) paths_fit there spelled stand small is within few_steps

-- the same of a print and a number of known bytes that are told
pub spelled_opens : StepsAreRead → FoundStepsHaveASpelling → (volume : Volume) (store : NamedStore) (paths : List FilePath) (known plain old new print : List ℕ) (k : ℕ) (pieces : Pieces)
    → print ≡ sha256 plain → k ≡ length known
    → old ≡ digits w32 0 ++ payload (record { store = store; print = print; sources = paths }) k pieces.steps.items pieces.fresh.items
    → StoreFits store → SourcesFit paths → known_in volume paths ≡ Some known → length known ≤ max_files
    → StandFor known plain pieces → All HasCount pieces.steps.items → length pieces.steps.items ≤ max_steps → length plain ≤ max_frame
    → is_head_of store (head_at plain) ≡ true → length old < length plain → new ≡ digits w32 (length old - 4) ++ drop 4 old → OpensTo volume paths new plain
spelled_opens are_read have volume store paths known plain old new print k pieces print_is k_is begun store_fits paths_fit known_is few stand counts few_steps small told shorter set =
    packed_opens are_read have volume store paths known plain old new pieces store_fits paths_fit known_is few stand counts few_steps small told
    (begun
    ∙ (ap (λ (p : List ℕ). digits w32 0 ++ payload (record { store = store; print = p; sources = paths }) k pieces.steps.items pieces.fresh.items) print_is
    ∙ ap (λ (n : ℕ). digits w32 0 ++ payload (record { store = store; print = sha256 plain; sources = paths }) n pieces.steps.items pieces.fresh.items) k_is))
    shorter set
