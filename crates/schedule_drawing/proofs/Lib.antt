mod Drawn
mod Panel
