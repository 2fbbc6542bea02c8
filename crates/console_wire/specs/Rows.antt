-- claim: worked rows of what bytes from a console say.
use Rattle.std.specs.Prelude.{◌≡◌, [], ◌∷◌, ◌++◌, codes, replicate}
use Rattle.ctss_types.specs.declared.script.Event.TheVariants.{Line, Quit}
use Rattle.console_wire.specs.Items.{console_items, items_from, piece_from}

pub record RowOfItems : Type 0 where
  pub line : console_items (codes "login alfa" ++ 13 ∷ 10 ∷ []) ≡ Line (codes "LOGIN ALFA") ∷ []
  pub rest : console_items (codes "login") ≡ []
  -- cut within a line
  pub first : items_from [] (codes "login a") ≡ []
  pub piece : piece_from [] (codes "login a") ≡ codes "login a"
  pub second : items_from (codes "login a") (codes "lfa" ++ 13 ∷ 10 ∷ []) ≡ Line (codes "LOGIN ALFA") ∷ []
  -- a carriage return alone ends nothing
  pub return_alone : console_items (codes "A" ++ 13 ∷ codes "B" ++ 10 ∷ []) ≡ Line (codes "AB") ∷ []
  -- byte 3 within a line
  pub quit : console_items (codes "AB" ++ 3 ∷ codes "C" ++ 10 ∷ []) ≡ Quit ∷ Line (codes "C") ∷ []
  -- the 85th character is dropped
  pub most : console_items (replicate 84 65 ++ 66 ∷ 10 ∷ []) ≡ Line (replicate 84 65) ∷ []
  pub ends : console_items (codes "A B  " ++ 10 ∷ []) ≡ Line (codes "A B") ∷ []
  pub strange : console_items (codes "A" ++ 233 ∷ codes "B" ++ 10 ∷ []) ≡ Line (codes "A B") ∷ []
  pub empty : console_items (10 ∷ 10 ∷ []) ≡ Line [] ∷ Line [] ∷ []
