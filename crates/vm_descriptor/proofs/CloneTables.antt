-- What page tables tell of blank pages.
use Rattle.std.proofs.Common.{◌≡◌, ℕ, ◌+◌, ◌<◌, Bool, true, false, List, [], ◌∷◌, ◌++◌, length, map, replicate, take, drop, refl, sym, ap, ap₂, ◌∙◌, drop-drop}
use Rattle.std.proofs.lemmas.List.{length-map, map-append, drop-map, replicate_more, take-append-drop, take-map, take_more}
use Rattle.page_frames.specs.declared.entry.Entry.{Entry}
use Rattle.page_frames.specs.declared.entry.Entry.TheVariants.{Absent}
use Rattle.page_frames.specs.Tables.{entry_at, is_blank}
use Rattle.vm_descriptor.specs.CloneTables.{clone_table}

-- the table of a clone tells the flags that it is made by
pub clone_blank : (blank : List Bool) → map is_blank (clone_table blank) ≡ blank
clone_blank [] = refl
clone_blank (true ∷ blank) = ap (λ flags. true ∷ flags) (clone_blank blank)
clone_blank (false ∷ blank) = ap (λ flags. false ∷ flags) (clone_blank blank)

-- a flag for each entry
pub flag_count : (table : List Entry) → length (map is_blank table) ≡ length table
flag_count table = length-map table is_blank

-- the flags of a run of entries, before those behind them
pub run_flags : (table run : List Entry) (begin end : ℕ) → end ≡ begin + length run → run ≡ take (length run) (drop begin table)
    → map is_blank run ++ drop end (map is_blank table) ≡ drop begin (map is_blank table)
run_flags table run begin end is taken =
    let flags = map is_blank table in
    let own : map is_blank run ≡ take (length run) (drop begin flags) =
    ap (map is_blank) taken ∙ sym (take-map is_blank (length run) (drop begin table)) ∙ ap (take (length run)) (sym (drop-map is_blank begin table)) in
    let behind : drop end flags ≡ drop (length run) (drop begin flags) = ap (λ n. drop n flags) is ∙ sym (drop-drop (length run) begin flags) in
    ap₂ (λ xs ys. xs ++ ys) own behind ∙ take-append-drop (length run) (drop begin flags)

-- the flags of the last entries, behind those before them
pub split_flags : (entries before last : List Entry) (count : ℕ) → before ≡ take count entries → last ≡ drop count entries
    → map is_blank entries ≡ map is_blank before ++ map is_blank last
split_flags entries before last count is_before is_last =
    ap (map is_blank) (sym (take-append-drop count entries)) ∙ map-append is_blank (take count entries) (drop count entries)
    ∙ ap₂ (λ xs ys. map is_blank xs ++ map is_blank ys) (sym is_before) (sym is_last)

-- equal flags, of which one more is known
pub equal_flags : (entries : List Entry) (count : ℕ) (flag : Bool) → count < length entries → is_blank (entry_at entries count) ≡ flag
    → map is_blank (take count entries) ≡ replicate count flag → map is_blank (take (count + 1) entries) ≡ replicate (count + 1) flag
equal_flags entries count flag inside is so_far =
    ap (map is_blank) (take_more entries count Absent inside) ∙ map-append is_blank (take count entries) (entry_at entries count ∷ [])
    ∙ ap₂ (λ xs x. xs ++ (x ∷ [])) so_far is ∙ replicate_more count flag
