-- A listing of a module shows the faults of its cards, and its places.
use Rattle.std.proofs.Common.{◌≡◌, ℕ, zero, suc, ◌+◌, Bool, true, false, List, [], ◌∷◌, ◌++◌, length, map, replicate, Option, Some, None, refl, sym, ap, ◌∙◌, append-nil, if◌then◌else◌, true≢false}
use Rattle.std.specs.List.{flat_map}
use Rattle.fap_model.specs.declared.types.Operation.{Operation}
use Rattle.fap_model.specs.declared.types.Operation.TheVariants.{Machine as machine, Pze as pze, Org as org, Bss as bss, Equ as equ, Dec as dec, Oct as oct, Bci as bci, End as end}
use Rattle.fap_model.specs.Decks.{operation_in, is_end, cards_read, cards_before_end, has_end, fault_entry}
use Rattle.link_model.specs.declared.types.ModulePlace.{ModulePlace}
use Rattle.link_model.specs.Moves.{Moved, nothing_moved, without_org, module_operation, moved_size, moved_behind}
use Rattle.link_model.specs.ModuleCards.{Relocated, relocated_of, module_fault, module_faults_from, cell, cells_by, cells_from}
use Rattle.link_model.specs.Listed.{places_reserved, kind_placed, words_placed, module_rows_from, listed_module, module_faults_shown, row_places, ModuleShowsFaults, ModuleShowsPlaces}

rows_show : (r : Relocated) (n : ℕ) (m : Moved) (before cards : List (List ℕ))
    → module_faults_shown n (module_rows_from r m before cards) ≡ module_faults_from r n m before cards
rows_show r n m before [] = refl
rows_show r n m before (card ∷ cards) =
    ap (λ (fs : List (ℕ × ℕ)). fault_entry n (module_fault r m before card) ++ fs)
    (rows_show r (suc n) (moved_behind r.externs m card) (before ++ card ∷ []) cards)

pub shows_faults : ModuleShowsFaults
unfolding listed_module
shows_faults cards =
    ap (λ (fs : List (ℕ × ℕ)). fs ++ (if has_end cards then [] else (length cards + 1, 6) ∷ []))
    (rows_show (relocated_of cards) 1 nothing_moved [] (cards_read cards))

-- places

no_fault : (n f : ℕ) (more : List (ℕ × ℕ)) → fault_entry n f ++ more ≡ [] → (f ≡ 0) × (more ≡ [])
no_fault n zero more h = (refl, h)
no_fault n (suc f) more h = absurd (not_empty h)
  where
    not_empty : ((n, suc f) ∷ more) ≡ [] → ⊥
    not_empty h = cc

front_empty : {A : Type 0} (xs ys : List A) → xs ++ ys ≡ [] → xs ≡ []
front_empty [] ys h = refl
front_empty (x ∷ xs) ys h = absurd (not_empty h)
  where
    not_empty : (x ∷ (xs ++ ys)) ≡ [] → ⊥
    not_empty h = cc

-- what a card comes to that has a fault or none
abbrev placed : Relocated → Moved → ℕ → Option Operation → List ℕ → List ModulePlace
placed r m fault o card = replicate (places_reserved r m fault o card) (cell 0 0) ++ map (cell (kind_placed r m o card)) (words_placed r m fault o card)

sound_places : (r : Relocated) (m : Moved) (o : Option Operation) (card : List ℕ) → placed r m 0 o card ≡ cells_by r m o card
sound_places r m None card = refl
sound_places r m (Some (machine o)) card = refl
sound_places r m (Some pze) card = refl
sound_places r m (Some org) card = refl
sound_places r m (Some bss) card = append-nil (replicate (moved_size r.externs m (Some bss) card) (cell 0 0))
sound_places r m (Some equ) card = refl
sound_places r m (Some dec) card = refl
sound_places r m (Some oct) card = refl
sound_places r m (Some bci) card = refl
sound_places r m (Some end) card = refl

end_places : (r : Relocated) (m : Moved) (fault : ℕ) (o : Option Operation) (card : List ℕ) → is_end o ≡ true → placed r m fault (without_org o) card ≡ []
end_places r m zero (Some end) card h = refl
end_places r m (suc f) (Some end) card h = refl
end_places r m f None card h = absurd (true≢false (sym h))
end_places r m f (Some (machine o)) card h = absurd (true≢false (sym h))
end_places r m f (Some pze) card h = absurd (true≢false (sym h))
end_places r m f (Some org) card h = absurd (true≢false (sym h))
end_places r m f (Some bss) card h = absurd (true≢false (sym h))
end_places r m f (Some equ) card h = absurd (true≢false (sym h))
end_places r m f (Some dec) card h = absurd (true≢false (sym h))
end_places r m f (Some oct) card h = absurd (true≢false (sym h))
end_places r m f (Some bci) card h = absurd (true≢false (sym h))

end_case : (r : Relocated) (n : ℕ) (m : Moved) (before : List (List ℕ)) (card : List ℕ) (cards : List (List ℕ)) (b : Bool) → is_end (operation_in card) ≡ b
    → (module_faults_from r (suc n) (moved_behind r.externs m card) (before ++ card ∷ []) (cards_read cards) ≡ []
    → flat_map row_places (module_rows_from r (moved_behind r.externs m card) (before ++ card ∷ []) (cards_read cards)) ≡ cells_from r (moved_behind r.externs m card) (cards_before_end cards))
    → module_faults_from r n m before (if b then card ∷ [] else card ∷ cards_read cards) ≡ []
    → flat_map row_places (module_rows_from r m before (if b then card ∷ [] else card ∷ cards_read cards)) ≡ cells_from r m (if b then [] else card ∷ cards_before_end cards)
end_case r n m before card cards true e more h =
    ap (λ (ps : List ModulePlace). ps ++ []) (end_places r m (module_fault r m before card) (operation_in card) card e)
end_case r n m before card cards false e more h =
    let sound = no_fault n (module_fault r m before card) (module_faults_from r (suc n) (moved_behind r.externs m card) (before ++ card ∷ []) (cards_read cards)) h in
    ap (λ (f : ℕ). placed r m f (module_operation card) card ++ flat_map row_places (module_rows_from r (moved_behind r.externs m card) (before ++ card ∷ []) (cards_read cards))) sound.0
    ∙ ap (λ (ps : List ModulePlace). ps ++ flat_map row_places (module_rows_from r (moved_behind r.externs m card) (before ++ card ∷ []) (cards_read cards))) (sound_places r m (module_operation card) card)
    ∙ ap (λ (ps : List ModulePlace). cells_by r m (module_operation card) card ++ ps) (more sound.1)

rows_placed : (r : Relocated) (n : ℕ) (m : Moved) (before cards : List (List ℕ)) → module_faults_from r n m before (cards_read cards) ≡ []
    → flat_map row_places (module_rows_from r m before (cards_read cards)) ≡ cells_from r m (cards_before_end cards)
rows_placed r n m before [] h = refl
rows_placed r n m before (card ∷ cards) h =
    end_case r n m before card cards (is_end (operation_in card)) refl
    (rows_placed r (suc n) (moved_behind r.externs m card) (before ++ card ∷ []) cards) h

pub shows_places : ModuleShowsPlaces
unfolding listed_module
shows_places cards h =
    ap (λ (ps : List ModulePlace). ps ++ map (cell 0) (relocated_of cards).whole.literals)
    (rows_placed (relocated_of cards) 1 nothing_moved [] cards (front_empty (module_faults_from (relocated_of cards) 1 nothing_moved [] (cards_read cards)) _ h))
