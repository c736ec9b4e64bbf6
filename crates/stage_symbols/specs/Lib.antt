pub mod StageSymbols
